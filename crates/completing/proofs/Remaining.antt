-- The contexts that remain: what stands at a sheet link has its contexts in one union of classes there.
use Prim.Native.Nat.{ℕ}
use mathlib.Core.Path.{◌≡◌, refl, sym, subst}
use mathlib.Core.Logic.{◌⊎◌, inl, inr, ◌≢◌}
use Rattle.hyperlmntal.specs.Link.{◌∈◌}
use Rattle.placing.specs.Net.{NetCell, Net, Normal}
use Rattle.placing.specs.Placing.{Placing, given_to, At, Step, Linked, here, step, PortAt, Inside, Good}
use Rattle.placing.proofs.Standing.{context-link, place-link}
use Rattle.completing.specs.Known.{Stands, Touches, Known}
use Rattle.completing.specs.Remaining.{Closed}

module _ (S F : Net) (may : ℕ → ℕ → Type 0) (p : Placing) (y : ℕ) (goes : (x : ℕ) → At S F p x y → may x y) (C : ℕ → Type 0) (closed : Closed F may y C) where
  first-stands : {x x' : ℕ} → (t : Step S F p y x x') → Stands F x t.row.0
  first-stands t = record { row = t.row; of-figure = t.of-figure; port = t.first; number = refl }

  second-stands : {x x' : ℕ} → (t : Step S F p y x x') → Stands F x' t.row.0
  second-stands t = record { row = t.row; of-figure = t.of-figure; port = t.second; number = refl }

  -- Where all contexts of a link are in the set, so are those of each link that it is linked to.
  linked-within : {x x' : ℕ} → Linked S F p y x x' → ((k : ℕ) → Stands F x k → C k) → (k : ℕ) → Stands F x' k → C k
  linked-within here f k s = f k s
  linked-within (step {x' = z} t l) f k s = linked-within l (λ i u. closed z (goes z t.second_at) t.row.0 i (second-stands t) u (f t.row.0 (first-stands t))) k s

  -- Two links that are linked and not the same stand on contexts.
  linked-stands : {x x' : ℕ} → Linked S F p y x x' → x ≢ x' → (k : ℕ) × Stands F x k
  linked-stands here n = absurd (n refl)
  linked-stands (step t l) n = (t.row.0, first-stands t)

module _ (S F : Net) (NS : Normal S) (NF : Normal F) (P : Placing → Type 0) (may sure : ℕ → ℕ → Type 0) (other : ℕ → Type 0) (known : Known S F P may sure other) (p : Placing) (i : P p) where
  good : Good S F p
  good = known.good p i

  own : (j y : ℕ) → other j → Touches S j y → PortAt S F p (given_to p j) y ⊎ Inside S F p (given_to p j) y
  own j y o m = good.own-links j (known.is-atom j o) (known.not_taken p i j o) y m

  port-at : (j y k : ℕ) → other j → Touches S j y → (t : PortAt S F p k y) → At S F p t.link y
  port-at j y k o m t = record {
    figure-link = context-link F NF t.row t.link t.of-figure t.port;
    sheet-link = place-link S NS j y (known.is-atom j o) m;
    there = t.there;
  }

  port-stands : (k y : ℕ) → (t : PortAt S F p k y) → Stands F t.link k
  port-stands k y t = record { row = t.row; of-figure = t.of-figure; port = t.port; number = t.number }

  -- An other atom has one of the figure's contexts.
  pub given-some : (j : ℕ) → other j → (row : NetCell) × (row ∈ F.contexts) × (row.0 ≡ given_to p j)
  given-some j o = good.sending.to-contexts j (known.is-atom j o) (known.not_taken p i j o)

  module _ (y : ℕ) (C : ℕ → Type 0) (closed : Closed F may y C) where
    within : {x x' : ℕ} → Linked S F p y x x' → ((k : ℕ) → Stands F x k → C k) → (k : ℕ) → Stands F x' k → C k
    within = linked-within S F may p y (λ x a. known.may-go p i x y a) C closed

    -- Where a figure link surely goes that has all its contexts in the set, so has each other atom its context.
    pub sure-within : (j x : ℕ) → other j → Touches S j y → sure x y → ((k : ℕ) → Stands F x k → C k) → C (given_to p j)
    sure-within j x o m s f = by (own j y o m)
      where
        at : At S F p x y
        at = known.surely p i x y s

        by : PortAt S F p (given_to p j) y ⊎ Inside S F p (given_to p j) y → C (given_to p j)
        by (inl t) = within (good.linked x t.link y at (port-at j y (given_to p j) o m t)) f (given_to p j) (port-stands (given_to p j) y t)
        by (inr n) = absurd (n.no-figure-link x at.figure-link at.there)

    -- Where one other atom has its context in the set, so has each.
    pub beside-within : (j j' : ℕ) → other j → other j' → Touches S j y → Touches S j' y → C (given_to p j) → C (given_to p j')
    beside-within j j' o o' m m' c = by (own j y o m) (own j' y o' m')
      where
        by : PortAt S F p (given_to p j) y ⊎ Inside S F p (given_to p j) y → PortAt S F p (given_to p j') y ⊎ Inside S F p (given_to p j') y → C (given_to p j')
        by (inr n) w = subst C (sym (n.only-there j' (known.is-atom j' o') m').1) c
        by (inl t) (inr n) = subst C (n.only-there j (known.is-atom j o) m).1 c
        by (inl t) (inl t') = let a = port-at j y (given_to p j) o m t in
            within (good.linked t.link t'.link y a (port-at j' y (given_to p j') o' m' t'))
            (λ k s. closed t.link (known.may-go p i t.link y a) (given_to p j) k (port-stands (given_to p j) y t) s c) (given_to p j') (port-stands (given_to p j') y t')

    -- Two links surely go there, one with all its contexts in the set and one with none: there is no such placing.
    pub sure-apart : (x x' : ℕ) → sure x y → sure x' y → x ≢ x' → ((k : ℕ) → Stands F x k → C k) → ¬ ((k : ℕ) → Stands F x' k → ¬ C k)
    sure-apart x x' s s' n f g =
        let a = known.surely p i x y s in
        let a' = known.surely p i x' y s' in
        let t = linked-stands S F may p y (λ z b. known.may-go p i z y b) C closed (good.linked x' x y a' a) (λ e. n (sym e)) in
        g t.0 t.1 (within (good.linked x x' y a a') f t.0 t.1)
