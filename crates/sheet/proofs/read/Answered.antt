-- The answer to a row's tests, test by test, as the code comes to it.
use Prim.Native.Nat.{ℕ, ◌+◌, ◌<◌, ◌≤◌}
use mathlib.Core.Path.{◌≡◌, ap, sym}
use mathlib.Core.List.{[], ◌∷◌}
use mathlib.Core.Bool.{Bool, true, false}
use lib.Dec.{ltb}
use borrow.Author.Tests.{lt-ltb, le-ltb, le-leb, lt-leb}
use Rattle.rows.specs.Pick.{pick, or, not}
use Rattle.rows.specs.declared.row.Row.{Row}
use Rattle.sheet.specs.Kinds.{limits_of, atom_limit, link_limit}
use Rattle.sheet.specs.Reading.{strange_by, crowded, over_links, over_marks, first_of, late_tests}
use Rattle.sheet.specs.Steps.{answer_of, early_answer}
use Rattle.sheet.specs.declared.kind.Kind.{Kind}
use Rattle.sheet.specs.declared.answer.Refusal.{Refusal}
use Rattle.sheet.specs.declared.answer.Refusal.TheVariants.{Ragged, StrangeRow, BadColumn, Long, Crowded, Joints, Marks, BlankClash}
use Rattle.sheet.specs.declared.answer.Answer.{Answer}
use Rattle.sheet.specs.declared.answer.Answer.TheVariants.{Passed, Refused}

module _ (n : ℕ) (r1 r2 r3 r4 : Refusal) (b1 b2 b3 b4 : Bool) where
  abbrev Four : Answer → Type 0
  Four x = x ≡ answer_of (first_of ((b1, r1) ∷ (b2, r2) ∷ (b3, r3) ∷ (b4, r4) ∷ [])) n

  first : b1 ≡ true → Four (Refused r1 n)
  unfolding first_of
  first p = rw p

  module _ (p : b1 ≡ false) where
    second : b2 ≡ true → Four (Refused r2 n)
    unfolding first_of
    second q = rw p (rw q)

    module _ (q : b2 ≡ false) where
      third : b3 ≡ true → Four (Refused r3 n)
      unfolding first_of
      third t = rw p (rw q (rw t))

      fourth : b3 ≡ false → b4 ≡ true → Four (Refused r4 n)
      unfolding first_of
      fourth t u = rw p (rw q (rw t (rw u)))

      fifth : b3 ≡ false → b4 ≡ false → Four Passed
      unfolding first_of
      fifth t u = rw p (rw q (rw t (rw u)))

-- before the row is taken in
module _ (kind : Kind) (heads k : ℕ) (cut : Bool) (r : Row) where
  abbrev Early : Answer → Type 0
  Early x = x ≡ early_answer kind heads k cut r

  pub early-long : (limits_of kind).rows ≤ k → Early (Refused Long (k + 1))
  early-long a = first (k + 1) Long Ragged StrangeRow BadColumn _ cut (strange_by kind r.letter heads) (not r.good) (le-leb _ k a)

  module _ (a : k < (limits_of kind).rows) where
    pub early-cut : cut ≡ true → Early (Refused Ragged (k + 1))
    early-cut b = second (k + 1) Long Ragged StrangeRow BadColumn _ cut (strange_by kind r.letter heads) (not r.good) (lt-leb _ k a) b

    module _ (b : cut ≡ false) where
      pub early-strange : strange_by kind r.letter heads ≡ true → Early (Refused StrangeRow (k + 1))
      early-strange c = third (k + 1) Long Ragged StrangeRow BadColumn _ cut (strange_by kind r.letter heads) (not r.good) (lt-leb _ k a) b c

      module _ (c : strange_by kind r.letter heads ≡ false) where
        pub early-column : r.good ≡ false → Early (Refused BadColumn (k + 1))
        early-column d = fourth (k + 1) Long Ragged StrangeRow BadColumn _ cut (strange_by kind r.letter heads) (not r.good) (lt-leb _ k a) b c (ap not d)

        pub early-none : r.good ≡ true → Early Passed
        early-none d = fifth (k + 1) Long Ragged StrangeRow BadColumn _ cut (strange_by kind r.letter heads) (not r.good) (lt-leb _ k a) b c (ap not d)

-- after it
module _ (kind : Kind) (atoms contexts links marks : ℕ) (clash : Bool) (at : ℕ) where
  abbrev Late : Answer → Type 0
  Late x = x ≡ answer_of (first_of (late_tests kind atoms contexts links marks clash)) at

  crowd : Bool
  crowd = crowded kind atoms contexts

  over : Bool
  over = over_links kind links

  marked : Bool
  marked = over_marks kind marks

  pub late-atoms : atom_limit kind < atoms → Late (Refused Crowded at)
  unfolding crowd over marked
  late-atoms a = first at Crowded Joints Marks BlankClash crowd over marked clash (rw (lt-ltb _ _ a))

  module _ (a : atoms ≤ atom_limit kind) where
    pub late-contexts : (limits_of kind).contexts < contexts → Late (Refused Crowded at)
    unfolding crowd over marked
    late-contexts b = first at Crowded Joints Marks BlankClash crowd over marked clash (rw (le-ltb _ _ a) (rw (lt-ltb _ _ b)))

    module _ (b : contexts ≤ (limits_of kind).contexts) where
      few : crowd ≡ false
      unfolding crowd
      few = rw (le-ltb _ _ a) (rw (le-ltb _ _ b))

      pub late-links : link_limit kind < links → Late (Refused Joints at)
      unfolding crowd over marked
      late-links c = second at Crowded Joints Marks BlankClash crowd over marked clash few (lt-ltb _ _ c)

      module _ (c : links ≤ link_limit kind) where
        pub late-marks : (limits_of kind).marks < marks → Late (Refused Marks at)
        unfolding crowd over marked
        late-marks d = third at Crowded Joints Marks BlankClash crowd over marked clash few (le-ltb _ _ c) (lt-ltb _ _ d)

        module _ (d : marks ≤ (limits_of kind).marks) where
          pub late-clash : clash ≡ true → Late (Refused BlankClash at)
          unfolding crowd over marked
          late-clash e = fourth at Crowded Joints Marks BlankClash crowd over marked clash few (le-ltb _ _ c) (le-ltb _ _ d) e

          pub late-none : clash ≡ false → Late Passed
          unfolding crowd over marked
          late-none e = fifth at Crowded Joints Marks BlankClash crowd over marked clash few (le-ltb _ _ c) (le-ltb _ _ d) e
