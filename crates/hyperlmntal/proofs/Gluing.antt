-- Two filled hypergraphs whose parts correspond have the same connections.
use mathlib.Core.Path.{◌≡◌, refl, ap, sym, ◌∙◌, subst, subst₂}
use mathlib.Core.Logic.{◌↔◌}
use mathlib.Core.List.{List}
use mathlib.Core.Option.{some}
use Prim.Native.Nat.{ℕ}
use native.Mathlib.Omega.{arith}
use lib.ListN.{length, get_elem?}
use Rattle.hyperlmntal.specs.Link.{Link, ◌∈◌}
use Rattle.hyperlmntal.specs.GraphSubstitution.{Entry}
use Rattle.hyperlmntal.specs.Hypergraph.{Node, inner, name, Label, Cell, Fusion, Flat, Connected, stay, along, back, then, map_fusion}
use Rattle.hyperlmntal.specs.DenotedSubstitution.{Spot, within, outer_node, connect, plug, entry_for, fill_flat}
use Rattle.hyperlmntal.proofs.Connection.{connected-ind, connected-map, connected-≡, recast}
use Rattle.hyperlmntal.proofs.Lists.{each-sym}
use Rattle.hyperlmntal.proofs.Positions.{some-injective}
use Rattle.hyperlmntal.proofs.Relational.{Alike, Keeps, Turned}
use Rattle.hyperlmntal.proofs.Equivalence.{each-length}
use Rattle.hyperlmntal.proofs.Slots.{body_of, ports_of, fill_flat-all, fill_flat-slot, fill_flat-outer, connect-related}

-- Two templates with their fillings whose parts correspond: vertices by Paired, nodes of the templates by R, nodes of
-- the fillings for label t with n ports by S t n.
pub record Glue {P P' Q Q' : Type 0} (F : Flat P) (K : Flat P') (θ : List (Entry (Flat Q))) (θ' : List (Entry (Flat Q'))) : Type 1 where
  pub R : Node P → Node P' → Type 0
  pub links : (X : Link) → R (name X) (name X)
  pub onward : Keeps R F.fusions K.fusions
  pub backward : Keeps (Turned R) K.fusions F.fusions
  pub Paired : ℕ → ℕ → Type 0
  pub onto : (i : ℕ) (c : Cell P) → get_elem? F.atoms i ≡ some c → (j : ℕ) × (d : Cell P') × Paired i j × (get_elem? K.atoms j ≡ some d)
  pub from : (j : ℕ) (d : Cell P') → get_elem? K.atoms j ≡ some d → (i : ℕ) × (c : Cell P) × Paired i j × (get_elem? F.atoms i ≡ some c)
  pub onto-one : (i j k : ℕ) → Paired i j → Paired i k → j ≡ k
  pub from_one : (i j k : ℕ) → Paired i k → Paired j k → i ≡ j
  pub alike : (i j : ℕ) (c : Cell P) (d : Cell P') → Paired i j → get_elem? F.atoms i ≡ some c → get_elem? K.atoms j ≡ some d → Alike R c d
  pub S : Label → ℕ → Node Q → Node Q' → Type 0
  pub S-links : (t : Label) (n : ℕ) (X : Link) → S t n (name X) (name X)
  pub S-onward : (t : Label) (n : ℕ) → Keeps (S t n) (body_of (entry_for θ t n)).fusions (body_of (entry_for θ' t n)).fusions
  pub S-backward : (t : Label) (n : ℕ) → Keeps (Turned (S t n)) (body_of (entry_for θ' t n)).fusions (body_of (entry_for θ t n)).fusions
  pub same-ports : (t : Label) (n : ℕ) → ports_of (entry_for θ t n) ≡ ports_of (entry_for θ' t n)

unfoldable pub glue-sym : {P P' Q Q' : Type 0} {F : Flat P} {K : Flat P'} {θ : List (Entry (Flat Q))} {θ' : List (Entry (Flat Q'))} → Glue F K θ θ' → Glue K F θ' θ
glue-sym g = record { R = Turned g.R; links = g.links; onward = g.backward; backward = g.onward; Paired = Turned g.Paired; onto = g.from; from = g.onto; onto-one = λ i j k p q. g.from_one j k i p q; from_one = λ i j k p q. g.onto-one k i j p q; alike = λ i j c d p q r. let t = g.alike j i d c p r q in (sym t.0, each-sym t.1); S = λ t n. Turned (g.S t n); S-links = g.S-links; S-onward = g.S-backward; S-backward = g.S-onward; same-ports = λ t n. sym (g.same-ports t n) }

module _ {P P' Q Q' : Type 0} {F : Flat P} {K : Flat P'} {θ : List (Entry (Flat Q))} {θ' : List (Entry (Flat Q'))} (g : Glue F K θ θ') where
  -- Paired vertices with one label t and one number n of ports.
  pub record Slot : Type 0 where
    pub i : ℕ
    pub j : ℕ
    pub c : Cell P
    pub d : Cell P'
    pub t : Label
    pub n : ℕ
    pub paired : g.Paired i j
    pub at_i : get_elem? F.atoms i ≡ some c
    pub at_j : get_elem? K.atoms j ≡ some d
    pub label-c : c.label ≡ t
    pub label-d : d.label ≡ t
    pub size-c : length c.ports ≡ n
    pub size-d : length d.ports ≡ n

  abbrev pub plug_f : Slot → Node Q → Node (Spot P Q)
  plug_f s x = plug s.i s.c.ports (ports_of (entry_for θ s.t s.n)) x

  abbrev pub plug_k : Slot → Node Q' → Node (Spot P' Q')
  plug_k s y = plug s.j s.d.ports (ports_of (entry_for θ' s.t s.n)) y

  -- Partners in the filled hypergraphs.
  pub data Plugged (a : Node (Spot P Q)) (b : Node (Spot P' Q')) : Type 0 where
    outers : (n : Node P) (m : Node P') → g.R n m → a ≡ outer_node n → b ≡ outer_node m → Plugged a b
    inners : (s : Slot) (x : Node Q) (y : Node Q') → g.S s.t s.n x y → a ≡ plug_f s x → b ≡ plug_k s y → Plugged a b

  unfoldable pub slot_at : (i : ℕ) (c : Cell P) → get_elem? F.atoms i ≡ some c → Slot
  slot_at i c e = let u = g.onto i c e in let v = g.alike i u.0 c u.1 u.2 e u.3 in record { i = i; j = u.0; c = c; d = u.1; t = c.label; n = length c.ports; paired = u.2; at_i = e; at_j = u.3; label-c = refl; label-d = sym v.0; size-c = refl; size-d = sym (each-length v.1) }

  abbrev E⁺ : List (Fusion (Spot P Q))
  E⁺ = (fill_flat θ F).fusions

  abbrev D⁺ : List (Fusion (Spot P' Q'))
  D⁺ = (fill_flat θ' K).fusions

  outer-K : {a b : Node P'} → Connected K.fusions a b → Connected D⁺ (outer_node a) (outer_node b)
  outer-K c = connected-map K.fusions D⁺ outer_node (λ e m. along (fill_flat-outer θ' K e m)) c

  slot-K : (s : Slot) {x y : Node Q'} → Connected (body_of (entry_for θ' s.t s.n)).fusions x y → Connected D⁺ (plug_k s x) (plug_k s y)
  slot-K s c = connected-map (body_of (entry_for θ' s.t s.n)).fusions D⁺ (plug_k s) (λ e m. along (subst₂ (λ t n. (e : Fusion Q') → e ∈ (body_of (entry_for θ' t n)).fusions → map_fusion (plug s.j s.d.ports (ports_of (entry_for θ' t n))) e ∈ D⁺) s.label-d s.size-d (fill_flat-slot θ' K s.j s.d s.at_j) e m)) c

  -- Where the free link names of a filling are.
  gates : (s : Slot) (Z : Link) → (n : Node P) × (m : Node P') × g.R n m × (plug_f s (name Z) ≡ outer_node n) × (plug_k s (name Z) ≡ outer_node m)
  gates s Z = subst (λ Ys. (n : Node P) × (m : Node P') × g.R n m × (plug_f s (name Z) ≡ outer_node n) × (connect {Q = Q'} s.d.ports Ys Z ≡ outer_node m)) (g.same-ports s.t s.n) (connect-related {Q = Q} {Q' = Q'} g.links (g.alike s.i s.j s.c s.d s.paired s.at_i s.at_j).1 (ports_of (entry_for θ s.t s.n)) Z)

  outer-injective : (n m : Node P) → ◌≡◌ {A = Node (Spot P Q)} (outer_node n) (outer_node m) → n ≡ m
  outer-injective (inner p) (inner q) e = cc
  outer-injective (inner p) (name X) e = cc
  outer-injective (name X) (inner q) e = cc
  outer-injective (name X) (name Y) e = cc

  outer-not-within : (n : Node P) (i : ℕ) (q : Q) → outer_node n ≡ inner (within i q) → ⊥
  outer-not-within (inner p) i q e = let z : ◌≡◌ {A = ℕ} 0 1 = cc in omega arith
  outer-not-within (name X) i q e = let z : ◌≡◌ {A = ℕ} 0 1 = cc in omega arith

  module _ (a : Node (Spot P' Q')) where
    -- The way from a came last into the filling for t and n, put for the vertex at j with nodes ms, at y₀.
    abbrev InSlot : Label → ℕ → ℕ → List (Node P') → Node Q → Type 0
    InSlot t n j ms x = (x₀ : Node Q) × (y₀ : Node Q') × g.S t n x₀ y₀ × Connected (body_of (entry_for θ t n)).fusions x₀ x × Connected D⁺ a (plug j ms (ports_of (entry_for θ' t n)) y₀)

    abbrev In : Slot → Node Q → Type 0
    In s x = InSlot s.t s.n s.j s.d.ports x

    data Reached (c : Node (Spot P Q)) : Type 0 where
      outside : (d n : Node P) (d' : Node P') → g.R d d' → c ≡ outer_node n → Connected F.fusions d n → Connected D⁺ a (outer_node d') → Reached c
      inside : (s : Slot) (q : Q) → c ≡ inner (within s.i q) → In s (inner q) → Reached c

    same-slot : (s r : Slot) (x : Node Q) → r.i ≡ s.i → In r x → In s x
    same-slot s r x e h = subst₂ (λ j ms. InSlot s.t s.n j ms x) pj (ap (λ d. d.ports) pd) (subst₂ (λ t n. InSlot t n r.j r.d.ports x) (sym r.label-c ∙ ap (λ c. c.label) pc ∙ s.label-c) (sym r.size-c ∙ ap (λ c. length c.ports) pc ∙ s.size-c) h)
      where
        pc : r.c ≡ s.c
        pc = some-injective (sym r.at_i ∙ ap (get_elem? F.atoms) e ∙ s.at_i)

        pj : r.j ≡ s.j
        pj = g.onto-one s.i r.j s.j (subst (λ i. g.Paired i r.j) e r.paired) s.paired

        pd : r.d ≡ s.d
        pd = some-injective (sym r.at_j ∙ ap (get_elem? K.atoms) pj ∙ s.at_j)

    enter : (s : Slot) (x : Node Q) → Reached (plug_f s x) → In s x
    enter s (inner q) (outside d n d' r p c h) = absurd (outer-not-within n s.i q (sym p))
    enter s (inner q) (inside r q' p h) = let e : r.i ≡ s.i = cc in let f : q' ≡ q = cc in same-slot s r (inner q) e (subst (λ z. In r (inner z)) f h)
    enter s (name Z) h = at h (gates s Z)
      where
        at : Reached (plug_f s (name Z)) → (n : Node P) × (m : Node P') × g.R n m × (plug_f s (name Z) ≡ outer_node n) × (plug_k s (name Z) ≡ outer_node m) → In s (name Z)
        at (outside d n d' r p c k) t = (name Z, name Z, g.S-links s.t s.n Z, stay, then k (recast refl (sym t.4) (outer-K (g.onward d t.0 d' t.1 r t.2 (recast refl (outer-injective n t.0 (sym p ∙ t.3)) c)))))
        at (inside r q p k) t = absurd (outer-not-within t.0 r.i q (sym t.3 ∙ p))

    leave : (s : Slot) (x : Node Q) → In s x → Reached (plug_f s x)
    leave s (inner q) h = inside s q refl h
    leave s (name Z) h = let t = gates s Z in outside t.0 t.0 t.1 t.2 t.3 stay (then h.4 (recast refl t.4 (slot-K s (g.S-onward s.t s.n h.0 (name Z) h.1 (name Z) h.2 (g.S-links s.t s.n Z) h.3))))

    pass : (s : Slot) (x y : Node Q) → Connected (body_of (entry_for θ s.t s.n)).fusions x y → Reached (plug_f s x) → Reached (plug_f s y)
    pass s x y c r = let h = enter s x r in leave s y (h.0, h.1, h.2, then h.3 c, h.4)

    pass-outer : (n m : Node P) → Connected F.fusions n m → Reached (outer_node n) → Reached (outer_node m)
    pass-outer n m c (outside d k d' r p h w) = outside d m d' r refl (then h (recast (outer-injective n k p) refl c)) w
    pass-outer n m c (inside s q p h) = absurd (outer-not-within n s.i q p)

    walk : {c e : Node (Spot P Q)} → Connected E⁺ c e → Reached c → Reached e
    unfolding slot_at
    walk p = (connected-ind E⁺ Reached (fill_flat-all θ F (λ e. Reached e.0 ↔ Reached e.1) slots (λ e m. (pass-outer e.0 e.1 (along m), pass-outer e.1 e.0 (back (along m))))) p).0
      where
        slots : (i : ℕ) (c : Cell P) → get_elem? F.atoms i ≡ some c → (d : Fusion Q) → d ∈ (body_of (entry_for θ c.label (length c.ports))).fusions → Reached (plug i c.ports (ports_of (entry_for θ c.label (length c.ports))) d.0) ↔ Reached (plug i c.ports (ports_of (entry_for θ c.label (length c.ports))) d.1)
        slots i c e d m = let s = slot_at i c e in (pass s d.0 d.1 (along m), pass s d.1 d.0 (back (along m)))

    begin : (c : Node (Spot P Q)) → Plugged c a → Reached c
    begin c (outers n m r p q) = outside n n m r p stay (connected-≡ _ q)
    begin c (inners s x y r p q) = subst Reached (sym p) (leave s x (x, y, r, stay, connected-≡ _ q))

    finish : (b : Node (Spot P Q)) (b' : Node (Spot P' Q')) → Plugged b b' → Reached b → Connected D⁺ a b'
    finish b b' (outers n m r p q) h = at (subst Reached p h)
      where
        at : Reached (outer_node n) → Connected D⁺ a b'
        at (outside d k d' r' p' c w) = recast refl (sym q) (then w (outer-K (g.onward d n d' m r' r (recast refl (outer-injective k n (sym p')) c))))
        at (inside s z p' k) = absurd (outer-not-within n s.i z p')
    finish b b' (inners s x y r p q) h = let t = enter s x (subst Reached p h) in recast refl (sym q) (then t.4 (slot-K s (g.S-onward s.t s.n t.0 x t.1 y t.2 r t.3)))

  pub plugged-keeps : Keeps Plugged E⁺ D⁺
  plugged-keeps a b c d r s h = finish c b d s (walk c h (begin c a r))

pub plugged-sym : {P P' Q Q' : Type 0} {F : Flat P} {K : Flat P'} {θ : List (Entry (Flat Q))} {θ' : List (Entry (Flat Q'))} (g : Glue F K θ θ') {a : Node (Spot P Q)} {b : Node (Spot P' Q')} → Plugged g a b → Plugged (glue-sym g) b a
unfolding glue-sym
plugged-sym g (outers n m r p q) = outers m n r q p
plugged-sym g (inners s x y r p q) = inners (record { i = s.j; j = s.i; c = s.d; d = s.c; t = s.t; n = s.n; paired = s.paired; at_i = s.at_j; at_j = s.at_i; label-c = s.label-d; label-d = s.label-c; size-c = s.size-d; size-d = s.size-c }) y x r q p
