-- All atoms placed: links and contexts of the least good placing with these atoms, or that there is none.
use Prim.Native.Nat.{ℕ}
use mathlib.Core.Path.{◌≡◌, sym, ◌∙◌, ap, subst, subst₂}
use mathlib.Core.List.{List, ◌++◌}
use mathlib.Core.Bool.{true, false}
use mathlib.Core.Option.{none, some}
use lib.ListN.{length, take, drop, replicate, take-append-drop, length-replicate}
use lib.Seq.{take_at}
use Rattle.placing.specs.Net.{Net, Normal}
use Rattle.placing.specs.Placing.{Placing, Good}
use Rattle.placing.specs.First.{Within, Before, Answer}
use Rattle.placing.specs.Smallest.{list_of, bounds_of, placing_from, good_list}
use Rattle.placing.proofs.Tests.{turned_down}
use Rattle.placing.proofs.GoodTest.{says-good}
use Rattle.placing.proofs.SmallestLaws.{good-within, good-list}
use Rattle.completing.specs.Completion.{Completable}
use Rattle.completing.specs.Leaf.{LeastCompletion, OpenLinks, StateOf, NoneWith, rest_bounds}
use Rattle.completing.proofs.Lists.{before-prepend, within-rest}
use Rattle.completing.proofs.State.{good-completion}

module _ (S F : Net) (l : List ℕ) where
  module _ (NF : Normal F) (q : Placing) (un : List ℕ) (s : StateOf S F l q) (o : OpenLinks F un) where
    -- The state cannot be completed.
    pub not-completable : ¬ Completable S F q un → NoneWith S F l
    not-completable n p g e = n (p, good-completion S F l p g e NF q un s o)

  module _ (size : length l ≡ length F.atoms) where
    as-atoms : (m : List ℕ) → (placing_from S F (l ++ m)).atoms_to ≡ l
    as-atoms m = take_at l m (length F.atoms) size

    as-list : (m : List ℕ) → list_of (placing_from S F (l ++ m)) ≡ l ++ m
    as-list m = ap (λ (k : List ℕ). take (length F.atoms) (l ++ m) ++ k) (take-append-drop F.links (drop (length F.atoms) (l ++ m)))
        ∙ take-append-drop (length F.atoms) (l ++ m)

    refused : (m : List ℕ) → ¬ Good S F (placing_from S F (l ++ m)) → good_list S F (l ++ m) ≡ false
    refused m n = turned_down (says-good S F (placing_from S F (l ++ m))) n

    -- There is none.
    pub leaf-none : NoneWith S F l → Answer (λ m. good_list S F (l ++ m)) (rest_bounds S F) none
    leaf-none n m w = refused m (λ g. n (placing_from S F (l ++ m)) g (as-atoms m))

    -- The least completion of the state.
    pub leaf-some : Normal F → (q : Placing) (un : List ℕ) → StateOf S F l q → OpenLinks F un → (p : Placing) → LeastCompletion S F q un p
        → Answer (λ m. good_list S F (l ++ m)) (rest_bounds S F) (some (p.links_to ++ p.given))
    leaf-some NF q un s o p b = record { within = within; passes = passes; none_before = least }
      where
        good : Good S F p
        good = b.completion.good

        atoms : p.atoms_to ≡ l
        atoms = b.completion.same-atoms ∙ s.atoms

        rest : List ℕ
        rest = p.links_to ++ p.given

        within : Within (rest_bounds S F) rest
        within = within-rest (replicate (length F.atoms) (length S.atoms)) (rest_bounds S F) l rest (length-replicate _ _ ∙ sym size)
            (subst (λ (k : List ℕ). Within (bounds_of S F) (k ++ rest)) atoms (good-within S F p good))

        passes : good_list S F (l ++ rest) ≡ true
        passes = subst (λ (k : List ℕ). good_list S F (k ++ rest) ≡ true) atoms
            ((says-good S F (placing_from S F (list_of p))).complete (subst (Good S F) (sym (good-list S F p good)) good))

        least : (m : List ℕ) → Within (rest_bounds S F) m → Before m rest → good_list S F (l ++ m) ≡ false
        least m w d = refused m (λ g. b.none_before (placing_from S F (l ++ m)) (good-completion S F l (placing_from S F (l ++ m)) g (as-atoms m) NF q un s o)
            (subst₂ Before (sym (as-list m)) (ap (λ (k : List ℕ). k ++ rest) (sym atoms)) (before-prepend l m rest d)))
