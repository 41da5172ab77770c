-- What a text holds is within the table's ranges and limits.
use Prim.Native.Nat.{ℕ, zero, suc, ◌+◌, ◌<◌}
use mathlib.Core.Path.{◌≡◌, refl, ◌∙◌, ap}
use mathlib.Core.List.{List, [], ◌∷◌}
use mathlib.Core.Bool.{Bool, true, false, true≢false, false≢true}
use mathlib.Core.Logic.{⊎_elim}
use native.Mathlib.Omega.{arith}
use borrow.Author.Tests.{ltb-true, ltb-false}
use lib.Dec.{ltb}
use lib.ListN.{length, get_or, take, drop, length-take, length-drop, get_or-eq_default}
use lib.Seq.{get_or-take, get_or-drop}
use Rattle.rows.specs.Format.{most_links, field_count, row_width, rule_of}
use Rattle.rows.specs.Limits.{row_limit}
use Rattle.rows.specs.Row.{row_of}
use Rattle.rows.specs.Held.{Wiring, Held, nothing, with_link, with_links, merged, with_fusion, with_mark, links_of, atom_of, context_of, with_atom, with_context, with_fusion_row, with_edge_row, with_head, with_row}
use Rattle.rows.specs.declared.Context.{Context}
use Rattle.rows.specs.Ranges.{Within, Linked}
use Rattle.rows.proofs.RowRange.{later, good-letter, good-field, row-length, atom-range, context-range, fusion-range, mark-range, head-range}
use Rattle.linking.proofs.Wired.{link-by, links-marks, mark-by, mark-links, wired-none, wired-row, row_by}
use Rattle.sheet.specs.Kinds.{is_list}
use Rattle.sheet.specs.Reading.{strange, outcome_of}
use Rattle.sheet.specs.declared.kind.Kind.{Kind}
use Rattle.sheet.specs.declared.kind.Kind.TheVariants.{Plain, Pattern, Figure, Replacement, Fillings}
use Rattle.sheet.specs.declared.answer.Answer.TheVariants.{Passed}
use Rattle.sheet.specs.HeldLimits.{Every, LinkRange, MarkRange, Ports, AtomRange, ContextRange, FusionRange, EdgeRange, InRange, WithinLimits}
use Rattle.sheet.proofs.read.ReadingLaws.{row-counted}
use Rattle.sheet.proofs.read.Taken.{row_at, Taken, outcome-keeps}
use Rattle.sheet.proofs.read.Every.{every_one, every_of}

-- Links that are put in range stay so.
pub link-range : (w : Wiring) (x : ℕ) → Every LinkRange w.links → LinkRange x → Every LinkRange (with_link w x).links
link-range w x p q = link-by w x (λ v. Every LinkRange v.links) (λ h. p) (λ h. every_one LinkRange w.links x p q)

pub links-range : (w : Wiring) (l : List ℕ) → Every LinkRange w.links → Every LinkRange l → Every LinkRange (with_links w l).links
unfolding with_links
links-range w [] p q = p
links-range w (x ∷ l) p q = links-range (with_link w x) l (link-range w x p q.0) q.1

pub marks-range : (w : Wiring) (a m : ℕ) → Every MarkRange w.marks → MarkRange m → Every MarkRange (with_mark w a m).marks
unfolding merged
marks-range w a m p q = mark-by w a m (λ v. Every MarkRange v.marks) (λ h. p) (λ h. every_one MarkRange w.marks m p q)

-- The links of a row's numbers, in the array and as a list.
module _ (nums : List ℕ) (w : length nums ≡ field_count) where
  pub linked-ports : Linked nums → Ports (get_or nums 1 0) (drop 2 nums)
  linked-ports l =
      record {
        width = simp (length-drop, w);
        used = λ k h. rw (get_or-drop 2 nums k 0) (l.used k h);
        unused = λ k h. get_or-drop 2 nums k 0 ∙ l.unused k h;
      }

  pub linked-list : Linked nums → Every LinkRange (links_of nums)
  linked-list l = every_of LinkRange 0 (links_of nums) (λ k h.
      let q : k < get_or nums 1 0 = omega (arith, length-take (get_or nums 1 0) (drop 2 nums)) in
      rw (get_or-take (get_or nums 1 0) (drop 2 nums) k 0 q, get_or-drop 2 nums k 0) (l.used k q))

-- A good head leaves its further fields empty.
head-rule : (k : ℕ) → k < most_links → rule_of 4 (2 + k) ≡ rule_of 4 2
head-rule k h = ap (rule_of 4) (omega arith) ∙ later 4 k h

pub head-ports : (s : List ℕ) → (row_of s).good ≡ true → (row_of s).letter ≡ 4 → Ports 0 (drop 2 (row_of s).nums)
unfolding rule_of
head-ports s g e =
    record {
      width = simp (length-drop, row-length s);
      used = λ k h. absurd (omega arith);
      unused = λ k h. get_or-drop 2 (row_of s).nums k 0 ∙ go k (ltb k most_links) refl;
    }
  where
    go : (k : ℕ) (b : Bool) → ltb k most_links ≡ b → get_or (row_of s).nums (2 + k) 0 ≡ 0
    go k true l =
        ⊎_elim (λ w. absurd (false≢true w.0)) (λ w. w.1) (rw (e, head-rule k (ltb-true k most_links l)) at (good-field s g (2 + k) (omega (arith, ltb-true k most_links l))))
    go k false l = get_or-eq_default (row_of s).nums 0 (rw (row-length s) (omega (arith, ltb-false k most_links l)))

-- B rows stand in figures alone, heads in lists alone.
pub context-figure : (kind : Kind) (contexts : List Context) → strange kind contexts 1 ≡ false → is_list kind ≡ false
unfolding strange
context-figure Plain contexts e = refl
context-figure Pattern contexts e = refl
context-figure Figure contexts e = refl
context-figure Replacement contexts e = refl
context-figure Fillings contexts e = absurd (true≢false e)

pub head-list : (kind : Kind) (contexts : List Context) → strange kind contexts 4 ≡ false → is_list kind ≡ true
unfolding strange
head-list Plain contexts e = absurd (true≢false e)
head-list Pattern contexts e = absurd (true≢false e)
head-list Figure contexts e = absurd (true≢false e)
head-list Replacement contexts e = absurd (true≢false e)
head-list Fillings contexts e = refl

-- A row that is taken in keeps to the ranges.
module _ (kind : Kind) (pattern : List ℕ) (h : Held) (text : List ℕ) (t : Taken kind pattern h text) where
  s : List ℕ
  s = take row_width text

  nums : List ℕ
  nums = (row_at text).nums

  pub row-in-range : InRange kind h → InRange kind (with_row h (row_at text))
  unfolding with_atom with_context with_fusion_row with_edge_row with_head with_fusion merged s nums
  row-in-range p = row_by h (row_at text) (InRange kind) atom context fusion edge head
    where
      width : length nums ≡ field_count
      width = row-length s

      counted : Within 1 (h.rows + 1) row_limit
      counted = omega arith

      atom : (row_at text).letter ≡ 0 → InRange kind (with_atom h nums)
      atom e =
          let r = atom-range s t.good e in
          record {
            atoms = every_one AtomRange h.atoms (atom_of nums) p.atoms (record { name = r.name; count = r.links.count; ports = linked-ports nums width r.links });
            contexts = p.contexts;
            fusions = p.fusions;
            edges = p.edges;
            links = links-range h.wiring (links_of nums) p.links (linked-list nums width r.links);
            marks = rw links-marks p.marks;
          }

      context : (row_at text).letter ≡ 1 → InRange kind (with_context h nums)
      context e =
          let r = context-range s t.good e in
          let l = context-figure kind h.contexts (rw e at t.allowed) in
          let c : ContextRange kind (context_of nums (h.rows + 1)) =
          record { number = r.number; count = r.links.count; ports = rw l (linked-ports nums width r.links); row = counted } in
          record {
            atoms = p.atoms;
            contexts = every_one (ContextRange kind) h.contexts (context_of nums (h.rows + 1)) p.contexts c;
            fusions = p.fusions;
            edges = p.edges;
            links = links-range h.wiring (links_of nums) p.links (linked-list nums width r.links);
            marks = rw links-marks p.marks;
          }

      fusion : (row_at text).letter ≡ 2 → InRange kind (with_fusion_row h (get_or nums 0 0) (get_or nums 1 0))
      fusion e =
          let r = fusion-range s t.good e in
          record {
            atoms = p.atoms;
            contexts = p.contexts;
            fusions = every_one FusionRange h.fusions (get_or nums 0 0, get_or nums 1 0) p.fusions (r.first, r.second);
            edges = p.edges;
            links = links-range h.wiring (get_or nums 0 0 ∷ get_or nums 1 0 ∷ []) p.links (r.first, (r.second, tt));
            marks = rw links-marks p.marks;
          }

      edge : (row_at text).letter ≡ 3 → InRange kind (with_edge_row h (get_or nums 0 0) (get_or nums 1 0))
      edge e =
          let r = mark-range s t.good e in
          record {
            atoms = p.atoms;
            contexts = p.contexts;
            fusions = p.fusions;
            edges = every_one EdgeRange h.edges (get_or nums 0 0, get_or nums 1 0) p.edges (r.link, r.mark);
            links = rw mark-links (links-range h.wiring (get_or nums 0 0 ∷ []) p.links (r.link, tt));
            marks = marks-range (with_links h.wiring (get_or nums 0 0 ∷ [])) (get_or nums 0 0) (get_or nums 1 0) (rw links-marks p.marks) r.mark;
          }

      head : 3 < (row_at text).letter → InRange kind (with_head h nums)
      head k =
          let e : (row_at text).letter ≡ 4 = omega (arith, good-letter s t.good) in
          let r = head-range s t.good e in
          let l = head-list kind h.contexts (rw e at t.allowed) in
          let c : ContextRange kind (context_of nums (h.rows + 1)) =
          record { number = r.number; count = r.count; ports = rw l (head-ports s t.good e); row = counted } in
          record {
            atoms = p.atoms;
            contexts = every_one (ContextRange kind) h.contexts (context_of nums (h.rows + 1)) p.contexts c;
            fusions = tt;
            edges = tt;
            links = tt;
            marks = tt;
          }

  pub row_within : WithinLimits kind h → WithinLimits kind (with_row h (row_at text))
  row_within w =
      record {
        rows = omega (arith, row-counted h (row_at text));
        atoms = t.atoms;
        contexts = t.contexts;
        links = t.links;
        marks = t.marks;
        ranges = row-in-range w.ranges;
        wired = wired-row h (row_at text) w.wired;
      }

pub nothing-within : (kind : Kind) → WithinLimits kind nothing
nothing-within kind =
    record {
      rows = omega arith;
      atoms = omega arith;
      contexts = omega arith;
      links = omega arith;
      marks = omega arith;
      ranges = record { atoms = tt; contexts = tt; fusions = tt; edges = tt; links = tt; marks = tt };
      wired = wired-none;
    }

-- Whatever the answer, what is held is within; so it is where a text passed.
pub held-within : (kind : Kind) (pattern text : List ℕ) → WithinLimits kind (outcome_of kind pattern text).held
held-within kind pattern text = outcome-keeps kind pattern (WithinLimits kind) (λ h rest t w. row_within kind pattern h rest t w) text (nothing-within kind)

pub passed-within : (kind : Kind) (pattern text : List ℕ) → (outcome_of kind pattern text).answer ≡ Passed → WithinLimits kind (outcome_of kind pattern text).held
passed-within kind pattern text e = held-within kind pattern text
