-- The laws of the loop that settles the open links in ascending order.
use Prim.Native.Nat.{ℕ, suc, ◌≤◌, ◌<◌}
use mathlib.Core.Path.{refl, sym, subst}
use mathlib.Core.List.Memᴰ
use mathlib.Core.List.{List, [], ◌∷◌}
use Rattle.hyperlmntal.specs.Link.{◌∈◌}
use Rattle.placing.specs.Net.{Net, Range, Normal}
use Rattle.placing.specs.Placing.{Placing}
use Rattle.completing.specs.Completion.{Partial, Completable, put, remove}
use Rattle.completing.specs.Fault.{LeastGiven, completed}
use Rattle.completing.specs.Leaf.{LeastCompletion, Ascending, Settling}
use Rattle.completing.proofs.Lists.{ascending-rest}
use Rattle.completing.proofs.Put.{put-partial, put-there}
use Rattle.completing.proofs.Settling.{settled-least, settle-last, settle-next}

module _ (S F : Net) (NS : Normal S) (NF : Normal F) (q₀ : Placing) (un₀ : List ℕ) where
  pub settling-start : Partial S F q₀ un₀ → Completable S F q₀ un₀ → Settling S F q₀ un₀ q₀ un₀
  settling-start a c = record { partial = a; completable = c; leads = λ p b. b }

  module _ (q : Placing) (x : ℕ) (un : List ℕ) (s : Ascending (x ∷ un)) (t : Settling S F q₀ un₀ q (x ∷ un)) where
    mine : x ∈ (x ∷ un)
    mine = Memᴰ.head refl

    whole : (y : ℕ) → Completable S F (put q x y) un → Completable S F (put q x y) (remove x (x ∷ un))
    whole y c = subst (λ (k : List ℕ). Completable S F (put q x y) k) (sym (ascending-rest x un s)) c

    rest : (y : ℕ) → Completable S F (put q x y) (remove x (x ∷ un)) → Completable S F (put q x y) un
    rest y c = subst (λ (k : List ℕ). Completable S F (put q x y) k) (ascending-rest x un s) c

    -- x put at a number up to none is a state again
    pub settling-partial : (y : ℕ) → Range (suc S.links) y → Partial S F (put q x y) un
    settling-partial y r = subst (Partial S F (put q x y)) (ascending-rest x un s) (put-partial S F NF q (x ∷ un) t.partial x mine y r)

    -- no sheet link will do: then none
    pub settling-last : ((z : ℕ) → Range S.links z → ¬ Completable S F (put q x z) un) → Completable S F (put q x (suc S.links)) un
    settling-last n = rest (suc S.links) (settle-last S F NS NF q (x ∷ un) t.partial x mine t.completable (λ z r c. n z r (rest z c)))

    -- what will do is in range
    pub settling-range : (y : ℕ) → Completable S F (put q x y) un → Range (suc S.links) y
    settling-range y c = let d = whole y c in
        subst (Range (suc S.links)) (put-there S F NF q (x ∷ un) t.partial x mine y d.0 d.1)
        (d.1.good.sending.to-links x (t.partial.are-open x mine).is-link)

    -- y is the first that will do
    pub settling-next : (y : ℕ) → ((z : ℕ) → 1 ≤ z → z < y → ¬ Completable S F (put q x z) un) → Completable S F (put q x y) un
        → Settling S F q₀ un₀ (put q x y) un
    settling-next y refused c = record {
      partial = settling-partial y (settling-range y c);
      completable = c;
      leads = λ p b. t.leads p (settle-next S F NS NF q x un s t.partial y refused p b);
    }

  -- all are settled: with the least contexts it is the least completion
  pub settling-done : (q : Placing) → Settling S F q₀ un₀ q [] → (g : List ℕ) → LeastGiven S F q g → LeastCompletion S F q₀ un₀ (completed q g)
  settling-done q t g w = t.leads (completed q g) (settled-least S F NS NF q t.partial t.completable g w)
