-- E4 gives isomorphic hypergraphs: a way through a molecule is cut where it comes into the part that is exchanged.
use mathlib.Core.Path.{◌≡◌, refl, ap, sym, ◌∙◌}
use mathlib.Core.Logic.{◌↔◌}
use mathlib.Core.List.Memᴰ
use mathlib.Core.List.{List, ◌++◌, map}
use Prim.Native.Nat.{ℕ}
use native.Mathlib.Omega.{arith}
use Rattle.hyperlmntal.specs.Link.{Link, ◌∈◌}
use Rattle.hyperlmntal.specs.Hypergraph.{Node, inner, name, Fusion, Flat, Connected, stay, along, back, then, Place, here, under, left, right, map_cell, map_fusion, map_flat, join, on_left, on_right}
use Rattle.hyperlmntal.proofs.Lists.{all_map, all_append, perm-append, perm-map, each_append, each-map₂}
use Rattle.hyperlmntal.proofs.Connection.{connected-ind, connected-map, connected-≡, recast}
use Rattle.hyperlmntal.proofs.Relational.{Iso, Keeps, Turned}
use Rattle.hyperlmntal.proofs.FreeNames.{on_left-name}
use Rattle.hyperlmntal.proofs.Relabel.{cells-maps}

-- Partners in the molecule: nodes of the left part by R, local links of the right part themselves.
data Partner (R : Node Place → Node Place → Type 0) (a b : Node Place) : Type 0 where
  lefts : (n m : Node Place) → R n m → a ≡ on_left n → b ≡ on_left m → Partner R a b
  rights : (p : Place) → a ≡ inner (right p) → b ≡ inner (right p) → Partner R a b

partner-sym : {R : Node Place → Node Place → Type 0} {a b : Node Place} → Partner R a b → Partner (Turned R) b a
partner-sym (lefts n m r p q) = lefts m n r q p
partner-sym (rights x p q) = rights x q p

un_left : Node Place → Node Place
un_left (inner here) = inner here
un_left (inner (under p)) = inner here
un_left (inner (left p)) = inner p
un_left (inner (right p)) = inner here
un_left (name X) = name X

un_left-on_left : (n : Node Place) → un_left (on_left n) ≡ n
unfolding un_left
un_left-on_left (inner p) = refl
un_left-on_left (name X) = refl

on_left-injective : (n m : Node Place) → on_left n ≡ on_left m → n ≡ m
on_left-injective n m e = sym (un_left-on_left n) ∙ ap un_left e ∙ un_left-on_left m

left-not-right : (n : Node Place) (p : Place) → on_left n ≡ inner (right p) → ⊥
left-not-right (inner q) p e = let z : ◌≡◌ {A = ℕ} 0 1 = cc in omega arith
left-not-right (name X) p e = let z : ◌≡◌ {A = ℕ} 0 1 = cc in omega arith

-- A node that both parts have is a free link name.
shared : (u n : Node Place) → on_right u ≡ on_left n → (X : Link) × (u ≡ name X) × (n ≡ name X)
shared (inner p) n e = absurd (left-not-right n p (sym e))
shared (name X) n e = (X, refl, on_left-name n (sym e))

abbrev Both : List (Fusion Place) → List (Fusion Place) → List (Fusion Place)
Both E D = map (map_fusion on_left) E ++ map (map_fusion on_right) D

-- c, in the molecule before, is reached from a, in the molecule after (B): it is on the left, where the way came in last
-- at d, or local on the right.
data Reached (E B : List (Fusion Place)) (R : Node Place → Node Place → Type 0) (a c : Node Place) : Type 0 where
  through : (d d' n : Node Place) → R d d' → c ≡ on_left n → Connected E d n → Connected B a (on_left d') → Reached E B R a c
  beyond : (p : Place) → c ≡ inner (right p) → Connected B a c → Reached E B R a c

module _ (E E' D : List (Fusion Place)) (R : Node Place → Node Place → Type 0) (links : (X : Link) → R (name X) (name X)) (onward : Keeps R E E') (a : Node Place) where
  in_left : {x y : Node Place} → Connected E' x y → Connected (Both E' D) (on_left x) (on_left y)
  in_left c = connected-map E' (Both E' D) on_left (λ e m. along (Memᴰ.append_left (map (map_fusion on_right) D) (Memᴰ.map (map_fusion on_left) m))) c

  in_right : (e : Fusion Place) → e ∈ D → Connected (Both E' D) (on_right e.0) (on_right e.1)
  in_right e m = along (Memᴰ.append_right (map (map_fusion on_left) E') (Memᴰ.map (map_fusion on_right) m))

  step_left : (u w : Node Place) → Connected E u w → Reached E (Both E' D) R a (on_left u) → Reached E (Both E' D) R a (on_left w)
  step_left u w c (through d d' n r p q s) = through d d' w r refl (then q (recast (on_left-injective u n p) refl c)) s
  step_left u w c (beyond x p s) = absurd (left-not-right u x p)

  leave : (u : Node Place) → Reached E (Both E' D) R a (on_right u) → Connected (Both E' D) a (on_right u)
  leave u (through d d' n r p q s) = let t = shared u n p in recast refl (ap on_right (sym t.1)) (then s (in_left (onward d (name t.0) d' (name t.0) r (links t.0) (recast refl t.2 q))))
  leave u (beyond x p s) = s

  enter : (w : Node Place) → Connected (Both E' D) a (on_right w) → Reached E (Both E' D) R a (on_right w)
  enter (inner p) c = beyond p refl c
  enter (name X) c = through (name X) (name X) (name X) (links X) refl stay c

  walk : {c e : Node Place} → Connected (Both E D) c e → Reached E (Both E' D) R a c → Reached E (Both E' D) R a e
  walk p = (connected-ind (Both E D) (Reached E (Both E' D) R a) (all_append (map (map_fusion on_left) E) (map (map_fusion on_right) D) (λ e. Reached E (Both E' D) R a e.0 ↔ Reached E (Both E' D) R a e.1) (all_map (map_fusion on_left) E _ (λ e m. (step_left e.0 e.1 (along m), step_left e.1 e.0 (back (along m))))) (all_map (map_fusion on_right) D _ (λ e m. (λ h. enter e.1 (then (leave e.0 h) (in_right e m)), λ h. enter e.0 (then (leave e.1 h) (back (in_right e m))))))) p).0

  begin : (c : Node Place) → Partner R c a → Reached E (Both E' D) R a c
  begin c (lefts n m r p q) = through n m n r p stay (connected-≡ _ q)
  begin c (rights x p q) = beyond x p (connected-≡ _ (q ∙ sym p))

  finish : (b b' : Node Place) → Partner R b b' → Reached E (Both E' D) R a b → Connected (Both E' D) a b'
  finish b b' (lefts n m r p q) (through d d' k r' p' c s) = recast refl (sym q) (then s (in_left (onward d n d' m r' r (recast refl (on_left-injective k n (sym p' ∙ p)) c))))
  finish b b' (lefts n m r p q) (beyond x p' c) = absurd (left-not-right n x (sym p ∙ p'))
  finish b b' (rights x p q) (through d d' k r' p' c s) = absurd (left-not-right k x (sym p' ∙ p))
  finish b b' (rights x p q) (beyond y p' c) = recast refl (p ∙ sym q) c

partner-keeps : (E E' D : List (Fusion Place)) (R : Node Place → Node Place → Type 0) → ((X : Link) → R (name X) (name X)) → Keeps R E E' → Keeps (Partner R) (Both E D) (Both E' D)
partner-keeps E E' D R links onward a b c d r s h = finish E E' D R links onward c b d s (walk E E' D R links onward c h (begin E E' D R links onward c a r))

pub sound-E4 : (F K M : Flat Place) → Iso F K → Iso (join (map_flat on_left F) (map_flat on_right M)) (join (map_flat on_left K) (map_flat on_right M))
sound-E4 F K M i = record { R = Partner i.R; links = λ X. lefts (name X) (name X) (i.links X) refl refl; cells = (map (map_cell on_left) i.cells.0 ++ map (map_cell on_right) M.atoms, perm-append (map (map_cell on_right) M.atoms) (perm-map (map_cell on_left) i.cells.1), each_append (each-map₂ (map_cell on_left) (map_cell on_left) (λ c d t. (t.0, each-map₂ on_left on_left (λ n m r. lefts n m r refl refl) t.1)) i.cells.2) (cells-maps (Partner i.R) on_right on_right M.atoms (λ n m. own n))); onward = partner-keeps F.fusions K.fusions M.fusions i.R i.links i.onward; backward = λ a b c d r s h. partner-keeps K.fusions F.fusions M.fusions (Turned i.R) i.links i.backward a b c d (partner-sym r) (partner-sym s) h }
  where
    own : (n : Node Place) → Partner i.R (on_right n) (on_right n)
    own (inner p) = rights p refl refl
    own (name X) = lefts (name X) (name X) (i.links X) refl refl
