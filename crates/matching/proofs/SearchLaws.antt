-- The turns of the search: each candidate is dropped, excused, tried in vain or found.
use Prim.Native.Nat.{ℕ, suc, ◌≤◌, ◌<◌}
use mathlib.Core.Path.{◌≡◌, refl, ap, sym, ◌∙◌, subst}
use mathlib.Core.List.{List, [], ◌∷◌, ◌++◌, append_assoc}
use mathlib.Core.Bool.{Bool, true, false}
use mathlib.Core.Option.{Option, none, some}
use native.Mathlib.Omega.{arith}
use lib.ListN.{length, length-append}
use Rattle.rows.specs.Pick.{pick}
use Rattle.rows.specs.declared.Sheet as form
use Rattle.placing.specs.Net.{Net}
use Rattle.placing.specs.First.{Least, Answer, after}
use Rattle.placing.proofs.FirstLaws.{answer-only, first-answer, Tried, tried-none, tried-hit, tried-all}
use Rattle.network.specs.Begun.{Begun, test_after, bounds_after, least_after}
use Rattle.network.proofs.Nowhere.{bounds-next, not-begun-nowhere, nowhere-not-begun, answer-after, tried-choice, zero-not-begun}
use Rattle.matching.specs.Search.{behind, search_from, found_list, found_in}
use Rattle.matching.specs.declared.search.Found.{Found}

by-ok : (l : List ℕ) (ok c : Bool) → ok ≡ c → pick ok (some l) none ≡ pick c (some l) none
by-ok l ok c h = ap (λ (b : Bool). pick b (some l) none) h

-- a list was found, or none
pub none_found : (l : List ℕ) (ok : Bool) (pre : List ℕ) (o : Option (List ℕ)) → pick ok (some l) none ≡ behind pre o → ok ≡ false → o ≡ none
none_found l ok pre none e h = refl
none_found l ok pre (some m) e h = let q : pick false (some l) none ≡ some (pre ++ m) = sym (by-ok l ok _ h) ∙ e in absurd (let z : ◌≡◌ {A = ℕ} 0 1 = cc in omega arith)

pub some-found : (l : List ℕ) (ok : Bool) (pre : List ℕ) (o : Option (List ℕ)) → pick ok (some l) none ≡ behind pre o → ok ≡ true → (m : List ℕ) × (o ≡ some m)
some-found l ok pre none e h = let q : pick true (some l) none ≡ none = sym (by-ok l ok _ h) ∙ e in absurd (let z : ◌≡◌ {A = ℕ} 0 1 = cc in omega arith)
some-found l ok pre (some m) e h = (m, refl)

module _ (S F : Net) (pre : List ℕ) where
  -- the answer for the rest, whichever it is
  least-answer : Answer (test_after S F pre) (bounds_after S F (length pre)) (least_after S F pre)
  least-answer = first-answer (test_after S F pre) (bounds_after S F (length pre))

  least-only : (o : Option (List ℕ)) → Answer (test_after S F pre) (bounds_after S F (length pre)) o → least_after S F pre ≡ o
  least-only o a = answer-only (test_after S F pre) (bounds_after S F (length pre)) _ o least-answer a

  pub none-begun : least_after S F pre ≡ none → ¬ Begun S F pre
  none-begun e = nowhere-not-begun S F pre (subst (Answer (test_after S F pre) (bounds_after S F (length pre))) e least-answer)

  -- nothing begins so
  pub begun-none : length pre ≤ length F.atoms → ¬ Begun S F pre → search_from S F pre ≡ none
  begun-none h n = ap (behind pre) (least-only none (not-begun-nowhere S F pre (bounds_after S F (length pre)) h n))

-- the bounds behind one choice more
abbrev pub rest_bounds : Net → Net → List ℕ → List ℕ
rest_bounds S F pre = bounds_after S F (suc (length pre))

module _ (S F : Net) (pre : List ℕ) (small : length pre < length F.atoms) where
  abbrev rest : List ℕ
  rest = rest_bounds S F pre

  one_more : (t : ℕ) → length (pre ++ (t ∷ [])) ≡ suc (length pre)
  one_more t = omega (arith, length-append pre (t ∷ []))

  pub tried-start : Tried (test_after S F pre) 1 (rest_bounds S F pre)
  tried-start = tried-choice S F pre rest 0 small (tried-none (test_after S F pre) 0 rest) (zero-not-begun S F pre)

  pub tried-next : (t : ℕ) → Tried (test_after S F pre) t rest → ¬ Begun S F (pre ++ (t ∷ [])) → Tried (test_after S F pre) (suc t) rest
  tried-next t u n = tried-choice S F pre rest t small u n

  pub tried-end : Tried (test_after S F pre) (suc (length S.atoms)) rest → search_from S F pre ≡ none
  tried-end u = ap (behind pre) (least-only S F pre none (subst (λ (bs : List ℕ). Answer (test_after S F pre) bs none) (sym (bounds-next S F (length pre) small)) (tried-all (test_after S F pre) (length S.atoms) rest u)))

  -- what begins with the first choice that something begins with
  pub tried-found : (t : ℕ) → t ≤ length S.atoms → Tried (test_after S F pre) t rest → (l : List ℕ) → least_after S F (pre ++ (t ∷ [])) ≡ some l
      → search_from S F (pre ++ (t ∷ [])) ≡ search_from S F pre
  tried-found t h u l e = ap (behind (pre ++ (t ∷ []))) e ∙ ap some (append_assoc pre (t ∷ []) l) ∙ sym (ap (behind pre) (least-only S F pre (some (t ∷ l)) whole))
    where
      after-choice : Least (after t (test_after S F pre)) rest l
      after-choice =
          (answer-after S F pre rest t (some l)).0
          (subst (λ (k : ℕ). Answer (test_after S F (pre ++ (t ∷ []))) (bounds_after S F k) (some l)) (one_more t)
          (subst (Answer (test_after S F (pre ++ (t ∷ []))) (bounds_after S F (length (pre ++ (t ∷ []))))) e (least-answer S F (pre ++ (t ∷ [])))))

      whole : Answer (test_after S F pre) (bounds_after S F (length pre)) (some (t ∷ l))
      whole = subst (λ (bs : List ℕ). Least (test_after S F pre) bs (t ∷ l)) (sym (bounds-next S F (length pre) small)) (tried-hit (test_after S F pre) (length S.atoms) rest t l h u after-choice)

-- Nothing found.
module _ (sheet figure : form.Sheet) where
  pub nothing-found : (r : Found) → r.ok ≡ false → found_in sheet figure r ≡ none
  nothing-found r h = by-ok (found_list sheet figure r) r.ok false h
