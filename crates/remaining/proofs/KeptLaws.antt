-- Words in which every completion has the contexts of the atoms.
use Prim.Native.Nat.{ℕ, suc, ◌+◌, ◌≤◌, ◌<◌}
use mathlib.Core.Path.{◌≡◌}
use mathlib.Core.Logic.{◌↔◌}
use mathlib.Core.List.{List}
use mathlib.Core.Bool.{Bool}
use native.Mathlib.Omega.{arith}
use lib.ListN.{get_or, replicate}
use Rattle.hyperlmntal.specs.Link.{◌∈◌}
use Rattle.rows.specs.Limits.{sheet_atom_limit, sheet_link_limit}
use Rattle.rows.specs.declared.Sheet as form
use Rattle.placing.specs.Net.{Net}
use Rattle.placing.specs.Placing.{Placing, given_to}
use Rattle.network.specs.NetIn.{net_in}
use Rattle.network.specs.Ready.{state_in, TakenIn}
use Rattle.network.proofs.NetIn.{atoms-length}
use Rattle.completing.specs.Completion.{Partial, Completion}
use Rattle.stepping.specs.Chains.{node_of, node_count, Falls, Chained}
use Rattle.stepping.specs.Flags.{Within, SentTo}
use Rattle.stepping.specs.Standing.{digit_of, Described, Refuses}
use Rattle.remaining.specs.Joining.{all_contexts, Closure, closure_in}
use Rattle.remaining.specs.Allowing.{Allows, SettledIn, Together, TornAt, SomeEmpty}
use Rattle.remaining.proofs.AllowLaws.{allows-start}
use Rattle.remaining.proofs.GivenLaws.{small, settled-in, torn-not, together, empty-not}

-- In each completion of these placed atoms the context of every other atom is in its word.
abbrev pub Kept : form.Sheet → form.Sheet → List ℕ → List ℕ → List ℕ → List ℕ → Type 0
Kept sheet figure to taken flags words =
    (placed un : List ℕ) → TakenIn sheet figure (state_in figure placed to) taken → Partial (net_in sheet) (net_in figure) (state_in figure placed to) un
    → ((x : ℕ) → suc x ∈ un → get_or flags x 0 ≡ 1) → (p : Placing) → Completion (net_in sheet) (net_in figure) (state_in figure placed to) un p
    → Allows (net_in sheet) taken (λ j. digit_of (given_to p (suc j))) words

module _ (sheet figure : form.Sheet) (atoms links count : ℕ) (chains standing to : List ℕ) (d : Described sheet figure atoms links count chains standing to) where
  -- what the arrays are asked to be
  pub atoms-few : atoms ≤ sheet_atom_limit
  atoms-few = omega (arith, d.sheet-atoms, d.ready.sheet-fit.atom-count)

  pub links-few : links ≤ sheet_link_limit
  links-few = omega (arith, d.sheet-links, d.ready.sheet-fit.class-count)

  pub count-few : count ≤ sheet_link_limit
  count-few = omega (arith, d.figure-links, d.ready.figure-fit.class-count)

  pub to-within : Within (links + 1) count to
  to-within x h = let r = d.links-in.within x (omega (arith, h, d.figure-links)) in (r.0, omega (arith, r.1, d.sheet-links))

  pub chains-fall : Falls node_count chains
  chains-fall = let f = d.chains-in.nodes in
      record { within = λ v. omega (arith, f.within v, d.ready.sheet-fit.atom-count); above = f.above; falls = f.falls }

  module _ (taken flags : List ℕ) where
    pub kept-start : (words : List ℕ) → words ≡ replicate sheet_atom_limit all_contexts → Kept sheet figure to taken flags words
    kept-start words e placed un t a f p c = allows-start (net_in sheet) taken (λ j. digit_of (given_to p (suc j)))
        (small sheet figure atoms links count chains standing to d taken flags placed un t a f p c) words e (omega (arith, atoms-length sheet d.ready.sheet-fit, d.ready.sheet-fit.atom-count))

    -- cut where figure links go
    pub kept-settled : (was r : List ℕ)
        → ((S : Net) (n : ℕ) → Chained S n chains → (taken : List ℕ) (digits : ℕ → ℕ) → SettledIn S taken digits standing flags to count (links + 1) → Allows S taken digits was → Allows S taken digits r)
        → Kept sheet figure to taken flags was → Kept sheet figure to taken flags r
    kept-settled was r law k placed un t a f p c = law (net_in sheet) (node_of sheet.atom_count 0) d.chains-in taken (λ j. digit_of (given_to p (suc j)))
        (settled-in sheet figure atoms links count chains standing to d taken flags placed un t a f p c) (k placed un t a f p c)

    -- cut where none goes
    pub kept-round : (table used was r : List ℕ) → ((word : ℕ) → Closure standing flags to count 0 word (closure_in table word))
        → ((y : ℕ) → (get_or used y 0 ≡ 1) ↔ ((x : ℕ) × (x < count) × SentTo to (links + 1) x y))
        → ((S : Net) (n : ℕ) → Chained S n chains → (digits : ℕ → ℕ) → Together S taken digits table used → Allows S taken digits was → Allows S taken digits r)
        → Kept sheet figure to taken flags was → Kept sheet figure to taken flags r
    kept-round table used was r u m law k placed un t a f p c = law (net_in sheet) (node_of sheet.atom_count 0) d.chains-in (λ j. digit_of (given_to p (suc j)))
        (together sheet figure atoms links count chains standing to d taken flags placed un t a f p c table used u m) (k placed un t a f p c)

    pub kept-end : (words : List ℕ) (r : Bool) → SomeEmpty words taken atoms r → Kept sheet figure to taken flags words → Refuses sheet figure taken to flags r
    kept-end words r s k e placed un t a f (p, c) = empty-not sheet figure atoms links count chains standing to d taken flags placed un t a f p c words (k placed un t a f p c) (s e)

    pub torn-end : (r : Bool) → TornAt standing flags to count (links + 1) → Refuses sheet figure taken to flags r
    torn-end r w e placed un t a f (p, c) = torn-not sheet figure atoms links count chains standing to d taken flags placed un t a f p c w
