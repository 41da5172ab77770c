-- A list of fillings that was written, with exact marks and different numbers: no 9, and no 8 where the blanks have fillings in it.
use Prim.Native.Nat.{ℕ, suc, ◌+◌}
use mathlib.Core.Path.{◌≡◌, refl, ap, sym, ◌∙◌, subst}
use mathlib.Core.Logic.{◌⊎◌, inl, inr}
use mathlib.Core.List.Memᴰ
use mathlib.Core.List.{List, [], ◌∷◌}
use mathlib.Core.Bool.{Bool, true, false}
use borrow.Author.Tests.{eqb-true, eqb-false, eq-eqb}
use lib.Dec.{eqb}
use lib.ListN.{length}
use Rattle.hyperlmntal.specs.Link.{◌∈◌}
use Rattle.rows.specs.Pick.{pick}
use Rattle.rows.specs.Packed.{ports_of}
use Rattle.rows.specs.declared.Context.{Context}
use Rattle.sheet.specs.HeldLimits.{Every}
use Rattle.placing.specs.Fillings.{Filling, AllExactMarks}
use Rattle.placing.specs.ListText.{list_text}
use Rattle.placing.specs.ListFits.{ListFits}
use Rattle.placing.proofs.ListBack.{list_heads, list-heads}
use Rattle.filling.specs.Read.{list_held, filling_read, fillings_read}
use Rattle.filling.specs.Fill.{first_lacking, first_differing, is_exact}
use Rattle.filling.proofs.Exact.{marks-exact}
use Rattle.finding.proofs.Blanks.{Covering}

-- The first filling with a test that fails: none.
none-differs : (list : List ℕ) (l : List Context) → ((c : Context) → c ∈ l → is_exact (filling_read list c) ≡ true) → first_differing list l ≡ 0
unfolding first_differing
none-differs list [] h = refl
none-differs list (c ∷ l) h = rw (h c (Memᴰ.head refl)) (none-differs list l (λ d m. h d (Memᴰ.tail m)))

none-lacks : (heads l : List Context) → Every (λ (c : Context). ports_of heads c.number ≡ suc c.count) l → first_lacking heads l ≡ 0
unfolding first_lacking
none-lacks heads [] h = refl
none-lacks heads (c ∷ l) h = rw (eq-eqb (ports_of heads c.number) (suc c.count) h.0) (none-lacks heads l h.1)

-- No two fillings have one number.
abbrev pub Single : List Filling → Type 0
Single θ = (f g : Filling) → f ∈ θ → g ∈ θ → f.number ≡ g.number → f ≡ g

head-ports : (row : ℕ) (θ : List Filling) → Single θ → (f : Filling) → f ∈ θ → ports_of (list_heads row θ) f.number ≡ suc f.ports
unfolding ports_of
head-ports row [] one f m = absurd (Memᴰ.not-nil m)
head-ports row (g ∷ θ) one f m = at (eqb g.number f.number) refl (Memᴰ.cases_cons m) (head-ports (row + (1 + length g.rows)) θ (λ a b i j. one a b (Memᴰ.tail i) (Memᴰ.tail j)) f)
  where
    at : (b : Bool) → eqb g.number f.number ≡ b → (f ≡ g) ⊎ (f ∈ θ) → (f ∈ θ → ports_of (list_heads (row + (1 + length g.rows)) θ) f.number ≡ suc f.ports)
        → pick b (suc g.ports) (ports_of (list_heads (row + (1 + length g.rows)) θ) f.number) ≡ suc f.ports
    at true q c ih = ap (λ (z : Filling). suc z.ports) (one g f (Memᴰ.head refl) m (eqb-true g.number f.number q))
    at false q (inl e) ih = absurd (eqb-false g.number f.number q (ap (λ (z : Filling). z.number) (sym e)))
    at false q (inr i) ih = ih i

module _ (θ : List Filling) (fits : ListFits θ) (back : fillings_read (list_text θ) ≡ θ) (one : Single θ) (exact : AllExactMarks θ) where
  pub written-lacks : (l : List Context) → Every (Covering θ) l → first_lacking (list_held (list_text θ)).contexts l ≡ 0
  written-lacks l c = rw (list-heads θ fits) (none-lacks (list_heads 0 θ) l (each l c))
    where
      each : (l : List Context) → Every (Covering θ) l → Every (λ (c : Context). ports_of (list_heads 0 θ) c.number ≡ suc c.count) l
      each [] c = tt
      each (b ∷ l) c = let f = c.0 in (ap (ports_of (list_heads 0 θ)) (sym f.2) ∙ head-ports 0 θ one f.0 f.1 ∙ ap suc f.3, each l c.1)

  pub written-exact : first_differing (list_text θ) (list_held (list_text θ)).contexts ≡ 0
  written-exact =
      none-differs (list_text θ) (list_held (list_text θ)).contexts
      (λ c m. marks-exact (filling_read (list_text θ) c) (exact (filling_read (list_text θ) c) (subst (λ l. filling_read (list_text θ) c ∈ l) back (Memᴰ.map (filling_read (list_text θ)) m))))
