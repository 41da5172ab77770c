-- The set of figure atom i is stored again, and no other has its one place.
use Prim.Native.Nat.{ℕ, zero, suc, ◌<◌}
use mathlib.Core.Path.{◌≡◌, sym, ◌∙◌, ap, subst}
use mathlib.Core.List.{List, [], ◌∷◌}
use native.Mathlib.Decide.{ℕ_discrete}
use native.Mathlib.Omega.{arith}
use lib.ListN.{length, get_or, set}
use lib.Seq.{get_or-set_same, get_or-set_other}
use Rattle.candidates.specs.Words.{In, alone, fewer}
use Rattle.candidates.specs.Tables.{AtomIn, AtomsStay}
use Rattle.candidates.proofs.Digits.{in_some, in-dec, none_in, alone-only, in-fewer}
use Rattle.narrowing.specs.Steps.{Alone}
use Rattle.narrowing.proofs.alone.alone.Goals as goal

-- a set that is not empty is there
there : (a : List ℕ) (i : ℕ) → 0 < get_or a i 0 → i < length a
there [] i h = absurd (omega (arith, h))
there (x ∷ a) zero h = omega arith
there (x ∷ a) (suc i) h = omega (arith, there a i h)

module _ (a b : List ℕ) (i : ℕ) (same : length b ≡ length a) (t : ℕ) (here : AtomIn a i t) (only : (u : ℕ) → AtomIn a i u → u ≡ t) (s : AtomsStay a b (λ j u. ¬ AtomIn a i u)) where
  alone-stays : AtomsStay a (set b i (get_or a i 0)) (Alone a i)
  alone-stays j u h m f = go (ℕ_discrete j i)
    where
      go : Dec (j ≡ i) → AtomIn (set b i (get_or a i 0)) j u
      go (yes e) = subst (λ (w : ℕ). In w u) (sym (ap (λ (z : ℕ). get_or (set b i (get_or a i 0)) z 0) e ∙ get_or-set_same b i (get_or a i 0) 0 (omega (arith, same, there a i (in_some (get_or a i 0) t here))))) (subst (λ (z : ℕ). AtomIn a z u) e m)
      go (no d) = subst (λ (w : ℕ). In w u) (sym (get_or-set_other b i j (get_or a i 0) 0 d)) (s j u h m (λ q. d (f (λ v w. only v w ∙ sym (only u q)))))

-- where nothing is left but t
single : (row t w rest : ℕ) → w ≡ alone t → rest ≡ fewer row w → rest ≡ 0 → (u : ℕ) → In row u → u ≡ t
single row t w rest e f none u m = go (in-dec w u)
  where
    go : Dec (In w u) → u ≡ t
    go (yes q) = alone-only _ _ e u q
    go (no n) = absurd (none_in u (subst (λ (z : ℕ). In z u) none (in-fewer _ _ _ f u m n)))

pub returns-then-others-ne0 : goal.returns-then-others-ne0
returns-then-others-ne0 c =
    let a = c.args.atoms.now in
    let i = c.args.i in
    alone-stays a c.strip.new.atoms i c.strip.ensures.0 c.first.result c.first.ensures.1
    (single (get_or a i 0) c.first.result c.one.result c.minus.result c.one.ensures c.minus.ensures c.if-minus-ne0.false) c.strip.ensures.1
