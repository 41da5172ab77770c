-- Lists that have each number once, all of them out of one list: they are no longer than it, and a row of known links and marks adds no others.
use Prim.Native.Nat.{ℕ, ◌≤◌}
use mathlib.Core.Path.{refl, sym, subst}
use mathlib.Core.List.Memᴰ
use mathlib.Core.List.{List, [], ◌∷◌, ◌++◌}
use mathlib.Core.Logic.{⊎_elim}
use native.Mathlib.Omega.{arith}
use lib.ListN.{length}
use Rattle.hyperlmntal.specs.Link.{◌∈◌}
use Rattle.rows.specs.Held.{Wiring, with_link, with_links, merged, with_mark}
use Rattle.linking.proofs.Wired.{link-by, mark-by}
use Rattle.reading.proofs.normal.Distinct.{index_below, Once, once-length}

-- Each number of l stands there once, and is one of k.
pub record Few (k l : List ℕ) : Type 0 where
  pub once : Once l
  pub within : (x : ℕ) → x ∈ l → x ∈ k

pub few-none : (k : List ℕ) → Few k []
few-none k = record { once = tt; within = λ x i. absurd (Memᴰ.not-nil i) }

pub few-length : (k l : List ℕ) → Few k l → length l ≤ length k
few-length k l f = once-length l k f.once f.within

once-behind : (l : List ℕ) (x : ℕ) → Once l → (x ∈ l → ⊥) → Once (l ++ (x ∷ []))
once-behind [] x o n = (λ m. absurd (Memᴰ.not-nil m), tt)
once-behind (y ∷ l) x o n = (
  λ m. ⊎_elim (λ i. o.0 i) (λ i. n (Memᴰ.head (sym (Memᴰ.eq_of_singleton i)))) (Memᴰ.append_cases l m),
  once-behind l x o.1 (λ i. n (Memᴰ.tail i)),
)

module _ (k : List ℕ) where
  few-more : (l : List ℕ) (x : ℕ) → x ∈ k → (x ∈ l → ⊥) → Few k l → Few k (l ++ (x ∷ []))
  few-more l x i n f =
      record {
        once = once-behind l x f.once n;
        within = λ y m. ⊎_elim (λ j. f.within y j) (λ j. subst (λ z. z ∈ k) (sym (Memᴰ.eq_of_singleton j)) i) (Memᴰ.append_cases l m);
      }

  few-link : (w : Wiring) (x : ℕ) → x ∈ k → Few k w.links → Few k (with_link w x).links
  few-link w x i f = link-by w x (λ v. Few k v.links) (λ h. f) (λ h. few-more w.links x i (λ m. let b = index_below x w.links m in omega arith) f)

  pub few-links : (w : Wiring) (l : List ℕ) → ((x : ℕ) → x ∈ l → x ∈ k) → Few k w.links → Few k (with_links w l).links
  unfolding with_links
  few-links w [] p f = f
  few-links w (x ∷ l) p f = few-links (with_link w x) l (λ y i. p y (Memᴰ.tail i)) (few-link w x (p x (Memᴰ.head refl)) f)

  pub few-mark : (w : Wiring) (a m : ℕ) → m ∈ k → Few k w.marks → Few k (with_mark w a m).marks
  unfolding merged
  few-mark w a m i f = mark-by w a m (λ v. Few k v.marks) (λ h. f) (λ h. few-more w.marks m i (λ j. let b = index_below m w.marks j in omega arith) f)
