use Prim.Native.Nat.{ℕ}
use mathlib.Core.Path.{◌≡◌, subst}
use mathlib.Core.Logic.{◌⊎◌, inl, inr, ⊎_elim}
use native.Mathlib.Decide.{ℕ_discrete}
use native.Mathlib.Omega.{arith}
use Rattle.rows.specs.declared.Atom.{Atom}
use Rattle.candidates.specs.Laid.{laid_atom}
use Rattle.candidates.specs.Words.{InPair, alone, fewer}
use Rattle.candidates.proofs.Digits.{in_some, alone-in, alone-only, in-fewer, fewer-smaller}
use Rattle.candidates.proofs.Halves.{in_pair, with-kept, with-there}
use Rattle.narrowing.specs.Steps.{Given, GivenBy}
use Rattle.narrowing.proofs.given.given.Goals as goal

-- one taken out of the set
taken : (at : ℕ → Atom) (n k rest t w less : ℕ) → w ≡ alone t → less ≡ fewer rest w → (y : ℕ) → Given at n rest k y → GivenBy at n rest k y t ⊎ Given at n less k y
taken at n k rest t w less e f y g = go (ℕ_discrete g.0 t)
  where
    go : Dec (g.0 ≡ t) → GivenBy at n rest k y t ⊎ Given at n less k y
    go (yes q) = inl (subst (GivenBy at n rest k y) q g.1)
    go (no d) = let b = g.1 in inr (g.0, record { sheet-atom = b.sheet-atom; may = in-fewer _ _ _ f g.0 b.may (λ q. d (alone-only _ _ e g.0 q)); place = b.place; there = b.there })

pub loop-rest-smaller-in-Some : goal.loop-rest-smaller-in-Some
loop-rest-smaller-in-Some c = fewer-smaller _ _ _ c.minus-rest.ensures c.first-t.result c.first-t.ensures.1 (alone-in _ _ c.one.ensures)

pub loop-rest-preserved-in-Some : goal.loop-rest-preserved-in-Some
loop-rest-preserved-in-Some c =
    let s = c.args in
    let a = c.in-Some in
    let e = c.with-more.ensures in
    λ y h g. ⊎_elim (λ p. inl (with-kept _ _ a.ensures.2 _ e y (in_pair h) p))
    (λ q. ⊎_elim (λ b. inl (subst (InPair c.with-more.result) (let z : a.y ≡ y = omega (arith, a.ensures.1, b.there) in z) (with-there _ _ a.ensures.2 _ e))) inr
    (taken (laid_atom s.laid.now) s.n s.k c.loop-rest.rest c.first-t.result c.one.result c.minus-rest.result c.one.ensures c.minus-rest.ensures y q))
    (c.loop-rest.invariant y h g)

pub loop-rest-smaller-in_default : goal.loop-rest-smaller-in_default
loop-rest-smaller-in_default c = fewer-smaller _ _ _ c.minus-rest.ensures c.first-t.result c.first-t.ensures.1 (alone-in _ _ c.one.ensures)

pub loop-rest-preserved-in_default : goal.loop-rest-preserved-in_default
loop-rest-preserved-in_default c =
    let s = c.args in
    λ y h g. ⊎_elim inl
    (λ q. ⊎_elim (λ b. absurd (omega (arith, c.in_default.ensures, b.place))) inr
    (taken (laid_atom s.laid.now) s.n s.k c.loop-rest.rest c.first-t.result c.one.result c.minus-rest.result c.one.ensures c.minus-rest.ensures y q))
    (c.loop-rest.invariant y h g)

pub loop-rest-smaller : goal.loop-rest-smaller
loop-rest-smaller c = fewer-smaller _ _ _ c.minus-rest.ensures c.first-t.result c.first-t.ensures.1 (alone-in _ _ c.one.ensures)

pub loop-rest-preserved : goal.loop-rest-preserved
loop-rest-preserved c =
    let s = c.args in
    λ y h g. ⊎_elim inl
    (λ q. ⊎_elim (λ b. absurd (omega (arith, c.if-t-n.false, b.sheet-atom))) inr
    (taken (laid_atom s.laid.now) s.n s.k c.loop-rest.rest c.first-t.result c.one.result c.minus-rest.result c.one.ensures c.minus-rest.ensures y q))
    (c.loop-rest.invariant y h g)

pub returns : goal.returns
returns c = λ y h g. ⊎_elim (λ p. p) (λ q. absurd (omega (arith, in_some c.loop-rest.rest q.0 q.1.may))) (c.loop-rest.invariant y h g)
