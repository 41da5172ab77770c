-- What stays in the sets while words are stored.
use Prim.Native.Nat.{ℕ, zero, suc, ◌<◌}
use mathlib.Core.Path.{◌≡◌, refl, sym, ◌∙◌, ap, subst}
use mathlib.Core.List.{List, [], ◌∷◌}
use native.Mathlib.Decide.{ℕ_discrete, dec_lt}
use native.Mathlib.Omega.{arith}
use lib.ListN.{length, get_or, set}
use lib.Seq.{get_or-set_same, get_or-set_other, set_out}
use Rattle.rows.specs.Limits.{sheet_atom_limit, sheet_link_limit}
use Rattle.candidates.specs.Words.{digit, In, InPair}
use Rattle.candidates.specs.Tables.{AtomIn, LinkIn, AtomsStay, LinksStay}
use Rattle.candidates.proofs.Halves.{stored, stored-kept, stored_other}

pub atoms-then : (a b c : List ℕ) (P Q : ℕ → ℕ → Type 0) → AtomsStay a b P → AtomsStay b c Q → ((i t : ℕ) → t < sheet_atom_limit → P i t → Q i t) → AtomsStay a c P
atoms-then a b c P Q s r f i t h m p = r i t h (s i t h m p) (f i t h p)

pub atoms-more : (a b : List ℕ) (P Q : ℕ → ℕ → Type 0) → AtomsStay a b P → ((i t : ℕ) → t < sheet_atom_limit → Q i t → P i t) → AtomsStay a b Q
atoms-more a b P Q s f i t h m q = s i t h m (f i t h q)

pub links-then : (l k o : List ℕ) (P Q : ℕ → ℕ → Type 0) → LinksStay l k P → LinksStay k o Q → ((x y : ℕ) → y < sheet_link_limit → P x y → Q x y) → LinksStay l o P
links-then l k o P Q s r f x y h m p = r x y h (s x y h m p) (f x y h p)

pub links-more : (l k : List ℕ) (P Q : ℕ → ℕ → Type 0) → LinksStay l k P → ((x y : ℕ) → y < sheet_link_limit → Q x y → P x y) → LinksStay l k Q
links-more l k P Q s f x y h m q = s x y h m (f x y h q)

-- a word stored for figure atom i
pub atoms-put : (a b : List ℕ) (P : ℕ → ℕ → Type 0) → AtomsStay a b P → (i v : ℕ) → ((t : ℕ) → t < sheet_atom_limit → P i t → AtomIn b i t → In v t) → AtomsStay a (set b i v) P
atoms-put a b P s i v f j t h m p = go (ℕ_discrete j i) (dec_lt i (length b))
  where
    go : Dec (j ≡ i) → Dec (i < length b) → AtomIn (set b i v) j t
    go (yes e) (yes l) = ap (λ (w : ℕ). digit w t) (ap (λ (z : ℕ). get_or (set b i v) z 0) e ∙ get_or-set_same b i v 0 l) ∙ f t h (subst (λ (z : ℕ). P z t) e p) (subst (λ (z : ℕ). AtomIn b z t) e (s j t h m p))
    go (yes e) (no l) = ap (λ (z : List ℕ). digit (get_or z j 0) t) (set_out b i v (omega (arith, l))) ∙ s j t h m p
    go (no d) l = ap (λ (w : ℕ). digit w t) (get_or-set_other b i j v 0 d) ∙ s j t h m p

-- a pair stored for figure link x
pub links-put : (l k : List ℕ) (P : ℕ → ℕ → Type 0) → LinksStay l k P → (x : ℕ) (pair : List ℕ) → ((y : ℕ) → y < sheet_link_limit → P x y → LinkIn k x y → InPair pair y) → LinksStay l (stored k x pair) P
links-put l k P s x pair f u y h m p = go (ℕ_discrete u x)
  where
    go : Dec (u ≡ x) → LinkIn (stored k x pair) u y
    go (yes e) = let q = subst (λ (z : ℕ). LinkIn k z y) e (s u y h m p) in subst (λ (z : ℕ). LinkIn (stored k x pair) z y) (sym e) (stored-kept k x pair y h q (f y h (subst (λ (z : ℕ). P z y) e p) q))
    go (no d) = stored_other k x pair u y h d (s u y h m p)

-- A 0 that is stored is there, and no 0 goes.
pub zero-there : (a : List ℕ) (q : ℕ) → get_or (set a q 0) q 0 ≡ 0
zero-there [] q = refl
zero-there (x ∷ a) zero = refl
zero-there (x ∷ a) (suc q) = zero-there a q

pub zero-stays : (a : List ℕ) (q r : ℕ) → get_or a r 0 ≡ 0 → get_or (set a q 0) r 0 ≡ 0
zero-stays a q r m = go (ℕ_discrete r q)
  where
    go : Dec (r ≡ q) → get_or (set a q 0) r 0 ≡ 0
    go (yes e) = ap (λ (z : ℕ). get_or (set a q 0) z 0) e ∙ zero-there a q
    go (no d) = get_or-set_other a q r 0 0 d ∙ m
