-- What comparing answers, in each of its cases.
use Prim.Native.Nat.{ℕ}
use mathlib.Core.Path.{◌≡◌, refl, ap, ap₂, sym, ◌∙◌}
use mathlib.Core.Logic.{◌⊎◌, inl, inr, ◌↔◌}
use mathlib.Core.List.{List}
use mathlib.Core.Bool.{Bool, true, false}
use mathlib.Core.Option.{Option, none, some}
use native.Mathlib.Omega.{arith}
use Rattle.rows.specs.Pick.{pick}
use Rattle.sheet.specs.Reading.{outcome_of, no_ports}
use Rattle.reading.specs.NormalSheet.{packed_normal}
use Rattle.sheet.specs.declared.kind.Kind.TheVariants.{Plain}
use Rattle.sheet.specs.declared.answer.Refusal.{Refusal}
use Rattle.sheet.specs.declared.answer.Answer.TheVariants as read
use Rattle.rows.specs.declared.Sheet as form
use Rattle.placing.specs.Net.{Net, normal_net}
use Rattle.placing.specs.Placing.{Placing, Good}
use Rattle.placing.specs.Smallest.{smallest}
use Rattle.placing.proofs.FirstLaws.{both_ways}
use Rattle.placing.proofs.SmallestLaws.{smallest-good, smallest-none}
use Rattle.network.specs.NetIn.{net_in}
use Rattle.network.proofs.NetRead.{net-read, fit-read, normal-read}
use Rattle.network.specs.Ready.{Ready}
use Rattle.matching.specs.Search.{placed_in}
use Rattle.comparing.specs.Compare.{is_placed, same_test, compare_answer}
use Rattle.matching.specs.declared.search.Found.{Found}
use Rattle.answers.specs.declared.outcome.Compared.TheVariants.{Same, Differs, Refused}

-- A placing was found, or none.
placed_by_lem : (sheet other : form.Sheet) (r : Found) (b : Bool) → placed_in sheet other r ≡ smallest (net_in sheet) (net_in other) → r.ok ≡ b → is_placed (smallest (net_in sheet) (net_in other)) ≡ b
placed_by_lem sheet other r b e h = sym (ap is_placed e) ∙ go r.ok _ ∙ h
  where
    go : (ok : Bool) (p : Placing) → is_placed (pick ok (some p) none) ≡ ok
    go true p = refl
    go false p = refl

pub compared-by : (sheet other : form.Sheet) (r : Found) (b : Bool) → placed_in sheet other r ≡ smallest (net_in sheet) (net_in other) → r.ok ≡ b
    → pick b Same Differs ≡ pick (is_placed (smallest (net_in sheet) (net_in other))) Same Differs
compared-by sheet other r b e h = ap (λ (c : Bool). pick c Same Differs) (sym (placed_by_lem sheet other r b e h))

module _ (a b : List ℕ) where
  pub first-refused : (why : Refusal) (row : ℕ) → (outcome_of Plain no_ports a).answer ≡ read.Refused why row → Refused 1 why row ≡ compare_answer a b
  unfolding compare_answer
  first-refused why row e = rw e

  pub second-refused : (why : Refusal) (row : ℕ) → (outcome_of Plain no_ports a).answer ≡ read.Passed → (outcome_of Plain no_ports b).answer ≡ read.Refused why row → Refused 2 why row ≡ compare_answer a b
  unfolding compare_answer
  second-refused why row p e = rw (p, e)

  module _ (sheet other : form.Sheet) (e : sheet ≡ packed_normal (outcome_of Plain no_ports a).held) (f : other ≡ packed_normal (outcome_of Plain no_ports b).held) where
    -- what is read of the two can be searched
    pub ready_read : Ready sheet other
    ready_read = rw (e, f) (record { sheet-fit = fit-read Plain no_ports a refl; figure-fit = fit-read Plain no_ports b refl; sheet-normal = normal-read Plain no_ports a; figure-normal = normal-read Plain no_ports b })

    pub both-passed : (outcome_of Plain no_ports a).answer ≡ read.Passed → (outcome_of Plain no_ports b).answer ≡ read.Passed
        → pick (is_placed (smallest (net_in sheet) (net_in other))) Same Differs ≡ compare_answer a b
    unfolding compare_answer same_test
    both-passed p q = ap₂ (λ S F. pick (is_placed (smallest S F)) Same Differs) (ap net_in e ∙ net-read Plain no_ports a) (ap net_in f ∙ net-read Plain no_ports b) ∙ rw (p, q)

-- Some placing is found exactly when some placing is good.
pub placed-good : (S F : Net) → (is_placed (smallest S F) ≡ true) ↔ ((p : Placing) × Good S F p)
placed-good S F = (onward (smallest S F) refl, λ t. back (smallest S F) refl t.0 t.1)
  where
    onward : (o : Option Placing) → smallest S F ≡ o → is_placed o ≡ true → (p : Placing) × Good S F p
    onward none e h = both_ways h refl
    onward (some p) e h = (p, smallest-good S F p e)

    back : (o : Option Placing) → smallest S F ≡ o → (p : Placing) → Good S F p → is_placed o ≡ true
    back none e p g = absurd ((smallest-none S F).0 e p g)
    back (some q) e p g = refl

-- the answer for two texts that passed
module _ (a b : List ℕ) (p : (outcome_of Plain no_ports a).answer ≡ read.Passed) (q : (outcome_of Plain no_ports b).answer ≡ read.Passed) where
  abbrev same : Bool
  same = same_test (outcome_of Plain no_ports a).held (outcome_of Plain no_ports b).held

  passed-answer : compare_answer a b ≡ pick same Same Differs
  unfolding compare_answer
  passed-answer = rw (p, q)

  pub passed-either : (compare_answer a b ≡ Same) ⊎ (compare_answer a b ≡ Differs)
  passed-either = go same passed-answer
    where
      go : (c : Bool) → compare_answer a b ≡ pick c Same Differs → (compare_answer a b ≡ Same) ⊎ (compare_answer a b ≡ Differs)
      go true e = inl e
      go false e = inr e

  pub passed-same : (compare_answer a b ≡ Same) ↔ ((r : Placing) × Good (normal_net (outcome_of Plain no_ports a).held) (normal_net (outcome_of Plain no_ports b).held) r)
  unfolding same_test
  passed-same =
      let t = placed-good (normal_net (outcome_of Plain no_ports a).held) (normal_net (outcome_of Plain no_ports b).held) in
      (λ e. t.0 (picked same (sym passed-answer ∙ e)), λ g. passed-answer ∙ ap (λ (c : Bool). pick c Same Differs) (t.1 g))
    where
      picked : (c : Bool) → pick c Same Differs ≡ Same → c ≡ true
      picked true e = refl
      picked false e = absurd (let z : ◌≡◌ {A = ℕ} 0 1 = cc in omega arith)
