-- Figure links shifted from one sheet link of an atom to another, and off its further links; the atom to another context.
use Prim.Native.Nat.{ℕ, suc, ◌+◌, ◌-◌, ◌≤◌}
use mathlib.Core.Path.{◌≡◌, refl, sym, ◌∙◌, ap, subst}
use mathlib.Core.Logic.{◌⊎◌, inl, inr, ◌≢◌}
use mathlib.Core.List.{List}
use native.Mathlib.Decide.{ℕ_discrete}
use native.Mathlib.Omega.{arith}
use lib.ListN.{length, set, length-set}
use lib.Seq.{get_or-set_same, get_or-set_other}
use Rattle.placing.specs.Net.{Net, Range}
use Rattle.placing.specs.Placing.{Placing, number_at, cell_at, link_target, given_to}
use Rattle.placing.specs.Smallest.{table}
use Rattle.placing.proofs.Lists.{table-length, table_at}
use Rattle.completing.specs.Known.{Touches}
use Rattle.completing.proofs.Decide.{dec-and, dec-not, member-dec}

-- From link z of atom t to its link y.
module _ (S : Net) (t y z : ℕ) where
  -- b is a further link of t
  abbrev pub Further : ℕ → Type 0
  Further b = Touches S t b × ((b ≢ y) × (b ≢ z))

  -- what goes to b keeps going there
  abbrev pub Stays : ℕ → Type 0
  Stays b = (b ≢ z) × (¬ Further b)

  -- what went to b goes to d now
  pub data Moved (b d : ℕ) : Type 0 where
    over : b ≡ z → d ≡ y → Moved b d
    away : Further b → d ≡ suc S.links → Moved b d
    still : Stays b → d ≡ b → Moved b d

  pub from-z : {b d : ℕ} → Moved b d → b ≡ z → d ≡ y
  from-z (over h e) k = e
  from-z (away f e) k = absurd (f.1.1 k)
  from-z (still s e) k = absurd (s.0 k)

  pub stays-there : {b d : ℕ} → Moved b d → (c : ℕ) → Stays c → b ≡ c → d ≡ c
  stays-there (over h e) c s k = absurd (s.0 (sym k ∙ h))
  stays-there (away f e) c s k = absurd (s.1 (subst Further k f))
  stays-there (still h e) c s k = e ∙ k

  -- What goes to c now came from z, or was there.
  abbrev pub Came : ℕ → ℕ → Type 0
  Came b c = ((c ≡ y) × (b ≡ z)) ⊎ (Stays c × (b ≡ c))

  pub came : {b d : ℕ} → Moved b d → (c : ℕ) → c ≤ S.links → d ≡ c → Came b c
  came (over h e) c l k = inl (sym k ∙ e, h)
  came (away f e) c l k = absurd (omega arith)
  came (still s e) c l k = let h = sym e ∙ k in inr (subst Stays h s, h)

  pub moved-range : {b d : ℕ} → Range S.links y → Moved b d → Range (suc S.links) b → Range (suc S.links) d
  moved-range r (over h e) k = (omega (arith, r.0), omega (arith, r.1))
  moved-range r (away f e) k = (omega arith, omega arith)
  moved-range r (still s e) k = subst (Range (suc S.links)) (sym e) k

  further-dec : (b : ℕ) → Dec (Further b)
  further-dec b = dec-and (member-dec b (cell_at S.atoms t).1) (dec-and (dec-not (ℕ_discrete b y)) (dec-not (ℕ_discrete b z)))

  moved : (b : ℕ) → (d : ℕ) × Moved b d
  moved b = go (ℕ_discrete b z) (further-dec b)
    where
      go : Dec (b ≡ z) → Dec (Further b) → (d : ℕ) × Moved b d
      go (yes e) f = (y, over e refl)
      go (no n) (yes f) = (suc S.links, away f refl)
      go (no n) (no f) = (b, still (n, f) refl)

-- The links and the contexts of p, shifted; t gets the context of u.
pub record Shifted (S F : Net) (p : Placing) (t u y z : ℕ) (links given : List ℕ) : Type 0 where
  pub links-sent : length links ≡ F.links
  pub to : (v : ℕ) → Range F.links v → Moved S t y z (link_target p v) (number_at links v)
  pub atoms-given : length given ≡ length S.atoms
  pub given-t : number_at given t ≡ given_to p u
  pub given-other : (j : ℕ) → Range (length S.atoms) j → j ≢ t → number_at given j ≡ given_to p j

pub shift : (S F : Net) (p : Placing) (t u y z : ℕ) → Range (length S.atoms) t → length p.given ≡ length S.atoms
    → (links : List ℕ) × (given : List ℕ) × Shifted S F p t u y z links given
shift S F p t u y z r e = (
  table goes 1 F.links,
  set p.given (t - 1) (given_to p u),
  record {
    links-sent = table-length goes 1 F.links;
    to = λ v h. subst (Moved S t y z (link_target p v)) (sym (at v h)) (moved S t y z (link_target p v)).1;
    atoms-given = length-set p.given (t - 1) (given_to p u) ∙ e;
    given-t = get_or-set_same p.given (t - 1) (given_to p u) 0 (omega (arith, r.0, r.1, e));
    given-other = λ j h n. get_or-set_other p.given (t - 1) (j - 1) (given_to p u) 0 (λ k. n (omega (arith, r.0, h.0, k)));
  },
)
  where
    goes : ℕ → ℕ
    goes v = (moved S t y z (link_target p v)).0

    at : (v : ℕ) → Range F.links v → number_at (table goes 1 F.links) v ≡ goes v
    at v h = table_at goes 1 F.links (v - 1) 0 (omega (arith, h.0, h.1)) ∙ ap goes (let k : 1 + (v - 1) ≡ v = omega (arith, h.0) in k)
