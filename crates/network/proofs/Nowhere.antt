-- No good placing begins so exactly where the search for the rest answers none.
use Prim.Native.Nat.{ℕ, zero, suc, ◌+◌, ◌-◌, ◌≤◌, ◌<◌}
use mathlib.Core.Path.{◌≡◌, refl, ap, sym, ◌∙◌, subst}
use mathlib.Core.Logic.{◌↔◌}
use mathlib.Core.List.{List, [], ◌∷◌, ◌++◌, append_assoc}
use mathlib.Core.Bool.{Bool, true}
use mathlib.Core.Option.{Option, none}
use native.Mathlib.Omega.{arith}
use lib.ListN.{length, get_or, take, drop, replicate, length-append}
use lib.Seq.{take-append-add, get_or-append_seam}
use Rattle.placing.specs.Net.{Net, Range}
use Rattle.placing.specs.Placing.{number_at, Good}
use Rattle.placing.specs.First.{Within, also, after, Answer}
use Rattle.placing.specs.Smallest.{list_of, placing_from, bounds_of, good_list}
use Rattle.placing.proofs.Tests.{turned_down}
use Rattle.placing.proofs.FirstLaws.{both_ways, Tried, tried-more}
use Rattle.placing.proofs.GoodTest.{says-good}
use Rattle.placing.proofs.SmallestLaws.{good-within, good-list}
use Rattle.network.specs.Begun.{Begins, Begun, test_after, bounds_after}

within-drop : (pre m bs : List ℕ) → Within bs (pre ++ m) → Within (drop (length pre) bs) m
within-drop [] m bs w = w
within-drop (x ∷ pre) m [] w = elim w [ ]
within-drop (x ∷ pre) m (b ∷ bs) (also h w) = within-drop pre m bs w

drop-same : (b n k : ℕ) (bs : List ℕ) → k < n → drop k (replicate n b ++ bs) ≡ b ∷ drop (suc k) (replicate n b ++ bs)
drop-same b zero k bs h = absurd (omega arith)
drop-same b (suc n) zero bs h = refl
drop-same b (suc n) (suc k) bs h = drop-same b n k bs (omega arith)

module _ (S F : Net) where
  -- the bound of the next choice is the number of sheet atoms
  pub bounds-next : (k : ℕ) → k < length F.atoms → bounds_after S F k ≡ length S.atoms ∷ bounds_after S F (suc k)
  bounds-next k h = drop-same (length S.atoms) (length F.atoms) k _ h

  pub not-begun-nowhere : (pre bs : List ℕ) → length pre ≤ length F.atoms → ¬ Begun S F pre → Answer (test_after S F pre) bs none
  not-begun-nowhere pre bs h n m w = turned_down (says-good S F (placing_from S F (pre ++ m))) (λ g. n (placing_from S F (pre ++ m), g, begins))
    where
      begins : Begins pre (placing_from S F (pre ++ m))
      begins = (take (length F.atoms - length pre) m, ap (λ (k : ℕ). take k (pre ++ m)) (let e : length F.atoms ≡ length pre + (length F.atoms - length pre) = omega arith in e) ∙ take-append-add pre m (length F.atoms - length pre))

  pub nowhere-not-begun : (pre : List ℕ) → Answer (test_after S F pre) (bounds_after S F (length pre)) none → ¬ Begun S F pre
  nowhere-not-begun pre n b = both_ways passes (n m within)
    where
      m : List ℕ
      m = b.2.0 ++ (b.0.links_to ++ b.0.given)

      whole : list_of b.0 ≡ pre ++ m
      whole = ap (λ (l : List ℕ). l ++ (b.0.links_to ++ b.0.given)) b.2.1 ∙ append_assoc pre b.2.0 (b.0.links_to ++ b.0.given)

      within : Within (bounds_after S F (length pre)) m
      within = within-drop pre m (bounds_of S F) (subst (Within (bounds_of S F)) whole (good-within S F b.0 b.1))

      passes : test_after S F pre m ≡ true
      passes = (says-good S F (placing_from S F (pre ++ m))).complete (subst (λ (l : List ℕ). Good S F (placing_from S F l)) whole (subst (Good S F) (sym (good-list S F b.0 b.1)) b.1))

  pub begun-nowhere : (pre : List ℕ) → length pre ≤ length F.atoms → (¬ Begun S F pre) ↔ Answer (test_after S F pre) (bounds_after S F (length pre)) none
  begun-nowhere pre h = (not-begun-nowhere pre (bounds_after S F (length pre)) h, nowhere-not-begun pre)

  -- one choice more
  test-after : (pre : List ℕ) (t : ℕ) → test_after S F (pre ++ (t ∷ [])) ≡ after t (test_after S F pre)
  test-after pre t = λ i l. good_list S F (append_assoc pre (t ∷ []) l i)

  pub answer-after : (pre bs : List ℕ) (t : ℕ) (o : Option (List ℕ)) → Answer (test_after S F (pre ++ (t ∷ []))) bs o ↔ Answer (after t (test_after S F pre)) bs o
  answer-after pre bs t o = (subst (λ (test : List ℕ → Bool). Answer test bs o) (test-after pre t), subst (λ (test : List ℕ → Bool). Answer test bs o) (sym (test-after pre t)))

  -- a choice with which nothing begins is done with
  pub tried-choice : (pre bs : List ℕ) (t : ℕ) → length pre < length F.atoms → Tried (test_after S F pre) t bs → ¬ Begun S F (pre ++ (t ∷ [])) → Tried (test_after S F pre) (suc t) bs
  tried-choice pre bs t h u n =
      tried-more (test_after S F pre) 0 bs t u ((answer-after pre bs t none).0 (not-begun-nowhere (pre ++ (t ∷ [])) bs (omega (arith, length-append pre (t ∷ []))) n))

  -- a choice is the number of a sheet atom
  pub begun-range : (pre : List ℕ) (t : ℕ) → Begun S F (pre ++ (t ∷ [])) → (length pre < length F.atoms) × Range (length S.atoms) t
  begun-range pre t b = (small, subst (Range (length S.atoms)) at (b.1.sending.to-atoms (length pre + 1) (omega arith, omega (arith, small))))
    where
      split : b.0.atoms_to ≡ pre ++ (t ∷ b.2.0)
      split = b.2.1 ∙ append_assoc pre (t ∷ []) b.2.0

      small : length pre < length F.atoms
      small = omega (arith, b.1.sending.atoms-sent, ap length split, length-append pre (t ∷ b.2.0))

      at : number_at b.0.atoms_to (length pre + 1) ≡ t
      at = ap (λ (l : List ℕ). number_at l (length pre + 1)) split ∙ ap (λ (k : ℕ). get_or (pre ++ (t ∷ b.2.0)) k 0) (let q : length pre + 1 - 1 ≡ length pre = omega arith in q) ∙ get_or-append_seam pre t b.2.0 0

  pub zero-not-begun : (pre : List ℕ) → ¬ Begun S F (pre ++ (0 ∷ []))
  zero-not-begun pre b = let r : 1 ≤ 0 = (begun-range pre 0 b).1.0 in omega arith
