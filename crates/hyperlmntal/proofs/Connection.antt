-- Connected nodes of a hypergraph.
use mathlib.Core.Path.{◌≡◌, subst, subst₂}
use mathlib.Core.Logic.{◌↔◌}
use mathlib.Core.List.Memᴰ
use mathlib.Core.List.{List, map}
use Rattle.hyperlmntal.specs.Link.{◌∈◌}
use Rattle.hyperlmntal.specs.Hypergraph.{Node, Fusion, Connected, stay, along, back, then, map_fusion}

-- A property that each fusion respects both ways is respected by connections.
pub connected-ind : {P : Type 0} (E : List (Fusion P)) (I : Node P → Type 0) → ((e : Fusion P) → e ∈ E → I e.0 ↔ I e.1) → {a b : Node P} → Connected E a b → I a ↔ I b
connected-ind E I h stay = (λ x. x, λ x. x)
connected-ind E I h (along {a} {b} m) = h (a, b) m
connected-ind E I h (back c) = ((connected-ind E I h c).1, (connected-ind E I h c).0)
connected-ind E I h (then c d) = (λ x. (connected-ind E I h d).0 ((connected-ind E I h c).0 x), λ x. (connected-ind E I h c).1 ((connected-ind E I h d).1 x))

-- A map that takes the ends of each fusion to connected nodes keeps connections.
pub connected-map : {P Q : Type 0} (E : List (Fusion P)) (D : List (Fusion Q)) (f : Node P → Node Q) → ((e : Fusion P) → e ∈ E → Connected D (f e.0) (f e.1)) → {a b : Node P} → Connected E a b → Connected D (f a) (f b)
connected-map E D f h stay = stay
connected-map E D f h (along {a} {b} m) = h (a, b) m
connected-map E D f h (back c) = back (connected-map E D f h c)
connected-map E D f h (then c d) = then (connected-map E D f h c) (connected-map E D f h d)

pub connected-image : {P Q : Type 0} (E : List (Fusion P)) (f : Node P → Node Q) {a b : Node P} → Connected E a b → Connected (map (map_fusion f) E) (f a) (f b)
connected-image E f c = connected-map E (map (map_fusion f) E) f (λ e m. along (Memᴰ.map (map_fusion f) m)) c

pub connected-mono : {P : Type 0} (E D : List (Fusion P)) → ((e : Fusion P) → e ∈ E → e ∈ D) → {a b : Node P} → Connected E a b → Connected D a b
connected-mono E D h c = connected-map E D (λ n. n) (λ e m. along (h e m)) c

pub connected-≡ : {P : Type 0} (E : List (Fusion P)) {a b : Node P} → a ≡ b → Connected E a b
connected-≡ E {a} e = subst (λ b. Connected E a b) e stay

pub recast : {P : Type 0} {E : List (Fusion P)} {a b c d : Node P} → a ≡ b → c ≡ d → Connected E a c → Connected E b d
recast {E} p q c = subst₂ (λ x y. Connected E x y) p q c
