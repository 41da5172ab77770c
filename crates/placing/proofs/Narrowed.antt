-- The smallest good placing, found without looking into beginnings that cannot be those of a good placing: an atom with another
-- name or other links, or a mark elsewhere. It is the same placing, sooner.
use Prim.Native.Nat.{ℕ, ◌+◌, ◌-◌, ◌≤◌}
use mathlib.Core.Path.{◌≡◌, refl, sym, ◌∙◌, ap}
use mathlib.Core.List.{List, [], ◌∷◌, ◌++◌, map}
use mathlib.Core.Bool.{true}
use native.Mathlib.Omega.{arith}
use lib.ListN.{length, get_or, drop, get_or-append}
use lib.Seq.{get_or-take, get_or-drop}
use Rattle.hyperlmntal.specs.Link.{◌∈◌}
use Rattle.placing.specs.Net.{Net, Range}
use Rattle.placing.specs.Placing.{Placing, number_at, cell_at, atom_target, link_target, Good}
use Rattle.placing.specs.Smallest.{bounds_of, placing_from, good_list, placing_in, smallest}
use Rattle.placing.specs.Narrowed.{sent, may_links, may_atom, may_mark, may_place, narrowed}
use Rattle.placing.proofs.FirstLaws.{may-same}
use Rattle.placing.proofs.Tests.{Says, says-and, says-implies, says_eq, says-le, says_range, says_all, says_some, says-all-to}
use Rattle.placing.proofs.GoodTest.{says-good}

module _ (S F : Net) where
  module _ (k l : List ℕ) (g : Good S F (placing_from S F (k ++ l))) where
    abbrev whole : Placing
    whole = placing_from S F (k ++ l)

    abbrev Sent : ℕ → Type 0
    Sent x = Range F.links x × (length F.atoms + x ≤ length k)

    says-sent : (x : ℕ) → Says (sent S F k x) (Sent x)
    says-sent x = says-and (says_range _ _) (says-le _ _)

    atom-at : (i : ℕ) → Range (length F.atoms) i → i ≤ length k → atom_target whole i ≡ number_at k i
    atom-at i r h =
        let a : 1 ≤ i = r.0 in let b : i ≤ length F.atoms = r.1 in
        get_or-take (length F.atoms) (k ++ l) (i - 1) 0 (omega arith) ∙ get_or-append k l 0 (i - 1) (omega arith)

    link_at : (x : ℕ) → Sent x → link_target whole x ≡ number_at k (length F.atoms + x)
    link_at x s =
        let a : 1 ≤ x = s.0.0 in let b : x ≤ F.links = s.0.1 in let c : length F.atoms + x ≤ length k = s.1 in
        let e : length F.atoms + (x - 1) ≡ (length F.atoms + x) - 1 = omega arith in
        get_or-take F.links (drop (length F.atoms) (k ++ l)) (x - 1) 0 (omega arith)
        ∙ get_or-drop (length F.atoms) (k ++ l) (x - 1) 0
        ∙ ap (λ (j : ℕ). get_or (k ++ l) j 0) e
        ∙ get_or-append k l 0 ((length F.atoms + x) - 1) (omega arith)

    may-links : (a b : List ℕ) → map (link_target whole) a ≡ b → may_links S F k a b ≡ true
    may-links [] [] e = refl
    may-links [] (y ∷ m) e = absurd (let z : ◌≡◌ {A = ℕ} 0 1 = cc in omega arith)
    may-links (x ∷ a) [] e = absurd (let z : ◌≡◌ {A = ℕ} 0 1 = cc in omega arith)
    may-links (x ∷ a) (y ∷ m) e =
        let q : link_target whole x ≡ y = cc in
        let r : map (link_target whole) a ≡ m = cc in
        (says-and (says-implies (says-sent x) (says_eq _ _)) passes).complete ((λ s. sym (link_at x s) ∙ q), may-links a m r)
      where
        passes : Says (may_links S F k a m) (may_links S F k a m ≡ true)
        passes = record { sound = λ e. e; complete = λ e. e }

    may-atom : (i : ℕ) → Range (length F.atoms) i → may_atom S F k i ≡ true
    may-atom i r = (says-implies (says-le _ _) (says-and (says_eq _ _) passes)).complete (λ h. let e = atom-at i r h in
        ((g.across i r).name ∙ ap (λ (j : ℕ). (cell_at S.atoms j).0) e, may-links (cell_at F.atoms i).1 (cell_at S.atoms (number_at k i)).1 ((g.across i r).places ∙ ap (λ (j : ℕ). (cell_at S.atoms j).1) e)))
      where
        passes : Says (may_links S F k (cell_at F.atoms i).1 (cell_at S.atoms (number_at k i)).1) (may_links S F k (cell_at F.atoms i).1 (cell_at S.atoms (number_at k i)).1 ≡ true)
        passes = record { sound = λ e. e; complete = λ e. e }

    may-mark : (e : ℕ × ℕ) → e ∈ F.marks → may_mark S F k e ≡ true
    may-mark e m = (says-implies (says-sent e.0) (says_some _ (λ (d : ℕ × ℕ). (number_at k (length F.atoms + e.0) ≡ d.0) × (e.1 ≡ d.1)) (λ d. says-and (says_eq _ _) (says_eq _ _)) S.marks)
        ).complete (λ s. ((link_target whole e.0, e.1), g.same-marks.onward e.0 e.1 m, (sym (link_at e.0 s), refl)))

    may-place : may_place S F k ≡ true
    may-place = (says-and (says-all-to (may_atom S F k) (λ i. may_atom S F k i ≡ true) (λ i. record { sound = λ e. e; complete = λ e. e }) (length F.atoms))
        (says_all (may_mark S F k) (λ (e : ℕ × ℕ). may_mark S F k e ≡ true) (λ e. record { sound = λ e. e; complete = λ e. e }) F.marks)).complete (may-atom, may-mark)

  pub narrowed-same : smallest S F ≡ narrowed S F
  unfolding smallest narrowed
  narrowed-same = ap (placing_in S F) (sym (may-same (may_place S F) (good_list S F) (bounds_of S F) (λ k l w e. may-place k l ((says-good S F (placing_from S F (k ++ l))).sound e))))
