-- The table's limits are reached: texts with as many of everything as their kind allows pass, and
-- with one more of one thing they are refused, under the table's number and at that row.
use Prim.Native.Nat.{ℕ, ◌+◌, ◌-◌, ◌*◌, ◌/◌}
use mathlib.Core.Path.{◌≡◌, refl, ◌∙◌, ap}
use mathlib.Core.List.{List, [], ◌∷◌, ◌++◌}
use lib.ListN.{replicate}
use Rattle.rows.specs.Format.{most_links, most_context}
use Rattle.rows.specs.Limits.{row_limit, sheet_atom_limit, sheet_link_limit, sheet_marks, figure_atom_limit, figure_contexts, figure_link_limit, filling_links}
use Rattle.rows.specs.Held.{Held, atom_of, context_of}
use Rattle.rows.specs.declared.Context.{Context}
use Rattle.sheet.specs.Reading.{Outcome, read_from, no_ports}
use Rattle.sheet.specs.declared.kind.Kind.{Kind}
use Rattle.sheet.specs.declared.kind.Kind.TheVariants.{Plain, Pattern, Figure, Replacement, Fillings}
use Rattle.sheet.specs.declared.answer.Answer.{Answer}
use Rattle.texts.specs.Texts.{fusion}
use Rattle.texts.specs.Reached.{idle, full_rows, held_numbers, one_over, Reaches, sheet_rows, sheet_numbers, context_number, figure_rows, figure_numbers, one_context, one_port, second_head, list_rows, list_numbers}
use Rattle.texts.proofs.Texts.{down_from, answer_to, LastAnswers, AlmostAll, last-read, last-answers}

-- What the rows of full_rows hold, after these contexts.
unfoldable pub full_held : List Context → ℕ → ℕ → ℕ → Held
full_held contexts before atoms links =
    record {
      rows = row_limit - 1;
      atoms = down_from (λ k. atom_of (k ∷ 1 ∷ links ∷ replicate (most_links - 1) 0)) atoms;
      contexts = contexts;
      fusions = replicate (idle before atoms links) (links, links) ++ down_from (λ k. (2 * k, 2 * k - 1)) (links / 2);
      edges = down_from (λ k. (links, k)) sheet_marks;
      wiring = record {
        links = down_from (λ k. k) links;
        classes = down_from (λ k. (links - k) / 2 * 2) links;
        marks = down_from (λ k. k) sheet_marks;
        marked = replicate sheet_marks 0;
      };
    }

-- Reaches, read from what the rows hold.
pub record Last (kind : Kind) (pattern : List ℕ) (h : Held) (numbers : List ℕ) (cases : List (List ℕ × Answer)) : Type 0 where
  pub full : held_numbers (read_from 2 kind pattern h (fusion 1 1)).held ≡ numbers
  pub answers : LastAnswers kind pattern h cases

pub reaches : (kind : Kind) (pattern rows : List ℕ) (h : Held) (numbers : List ℕ) (cases : List (List ℕ × Answer))
    → AlmostAll kind pattern rows h → Last kind pattern h numbers cases → Reaches kind pattern rows numbers cases
reaches kind pattern rows h numbers cases a l =
    record {
      full = ap (λ (o : Outcome). held_numbers o.held) (last-read kind pattern rows h a (fusion 1 1)) ∙ l.full;
      answers = last-answers kind pattern rows h a cases l.answers;
    }

-- A sheet.
unfoldable pub sheet_held : Held
sheet_held = full_held [] 0 sheet_atom_limit sheet_link_limit

pub sheet-rows : AlmostAll Plain no_ports sheet_rows sheet_held
unfolding answer_to full_rows full_held sheet_rows sheet_held
sheet-rows = record { whole = refl; read = refl }

pub sheet-last : Last Plain no_ports sheet_held sheet_numbers (one_over sheet_link_limit)
unfolding answer_to full_held sheet_held
sheet-last = record { full = refl; answers = (refl, (refl, (refl, (refl, (refl, tt))))) }

pub sheet-limits : Reaches Plain no_ports sheet_rows sheet_numbers (one_over sheet_link_limit)
sheet-limits = reaches Plain no_ports sheet_rows sheet_held sheet_numbers (one_over sheet_link_limit) sheet-rows sheet-last

-- Figures.
unfoldable pub figure_held : ℕ → Held
figure_held contexts =
    full_held
    (down_from (λ k. context_of (context_number k ∷ 1 ∷ figure_link_limit ∷ replicate (most_links - 1) 0) (contexts + 1 - k)) contexts)
    contexts figure_atom_limit figure_link_limit

pub figure-rows : AlmostAll Figure no_ports (figure_rows figure_contexts) (figure_held figure_contexts)
unfolding answer_to full_rows full_held figure_rows figure_held
figure-rows = record { whole = refl; read = refl }

pub figure-last : Last Figure no_ports (figure_held figure_contexts) (figure_numbers figure_contexts) one_context
unfolding answer_to full_held figure_held
figure-last = record { full = refl; answers = (refl, (refl, (refl, (refl, (refl, (refl, tt)))))) }

pub figure-limits : Reaches Figure no_ports (figure_rows figure_contexts) (figure_numbers figure_contexts) one_context
figure-limits = reaches Figure no_ports (figure_rows figure_contexts) (figure_held figure_contexts) (figure_numbers figure_contexts) one_context figure-rows figure-last

-- A replacement, where the pattern has every number with one port.
pub replacement-rows : AlmostAll Replacement one_port (figure_rows figure_contexts) (figure_held figure_contexts)
unfolding answer_to full_rows full_held figure_rows figure_held
replacement-rows = record { whole = refl; read = refl }

pub replacement-last : Last Replacement one_port (figure_held figure_contexts) (figure_numbers figure_contexts) one_context
unfolding answer_to full_held figure_held
replacement-last = record { full = refl; answers = (refl, (refl, (refl, (refl, (refl, (refl, tt)))))) }

pub replacement-limits : Reaches Replacement one_port (figure_rows figure_contexts) (figure_numbers figure_contexts) one_context
replacement-limits =
    reaches Replacement one_port (figure_rows figure_contexts) (figure_held figure_contexts) (figure_numbers figure_contexts) one_context replacement-rows replacement-last

-- A pattern has each number once, so it has most_context contexts at most.
pub pattern-rows : AlmostAll Pattern no_ports (figure_rows most_context) (figure_held most_context)
unfolding answer_to full_rows full_held figure_rows figure_held
pattern-rows = record { whole = refl; read = refl }

pub pattern-last : Last Pattern no_ports (figure_held most_context) (figure_numbers most_context) (one_over figure_link_limit)
unfolding answer_to full_held figure_held
pattern-last = record { full = refl; answers = (refl, (refl, (refl, (refl, (refl, tt))))) }

pub pattern-limits : Reaches Pattern no_ports (figure_rows most_context) (figure_numbers most_context) (one_over figure_link_limit)
pattern-limits = reaches Pattern no_ports (figure_rows most_context) (figure_held most_context) (figure_numbers most_context) (one_over figure_link_limit) pattern-rows pattern-last

-- A list of two fillings.
unfoldable pub list_held : Held
list_held =
    let head_of : ℕ → ℕ → Context = λ number row. context_of (number ∷ most_links ∷ replicate most_links 0) row in
    full_held (head_of 1 1 ∷ head_of 2 second_head ∷ []) second_head sheet_atom_limit filling_links

pub list-rows : AlmostAll Fillings no_ports list_rows list_held
unfolding answer_to full_rows full_held list_rows list_held
list-rows = record { whole = refl; read = refl }

pub list-last : Last Fillings no_ports list_held list_numbers (one_over filling_links)
unfolding answer_to full_held list_held
list-last = record { full = refl; answers = (refl, (refl, (refl, (refl, (refl, tt))))) }

pub list-limits : Reaches Fillings no_ports list_rows list_numbers (one_over filling_links)
list-limits = reaches Fillings no_ports list_rows list_held list_numbers (one_over filling_links) list-rows list-last
