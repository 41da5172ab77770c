-- Labels taken in one by one, where there is room, are the first of those in the order in which they first appear.
use Prim.Native.Nat.{ℕ, suc, ◌+◌, ◌<◌, ◌≤◌}
use mathlib.Core.Path.{◌≡◌, refl, ap, sym, ◌∙◌, subst}
use mathlib.Core.Logic.{◌⊎◌, inl, inr, ⊎_elim}
use mathlib.Core.List.{List, [], ◌∷◌, ◌++◌, append-nil, append_assoc}
use mathlib.Core.Bool.{Bool, true, false}
use native.Mathlib.Omega.{arith}
use native.Mathlib.Decide.{dec_le}
use borrow.Author.Tests.{eq-eqb, lt-ltb, le-ltb, ltb-true, ltb-false}
use lib.Dec.{eqb, ltb}
use lib.ListN.{length, take, length-append}
use lib.Seq.{take_all, take-append-le, length-take-le}
use Rattle.rows.specs.Pick.{pick}
use Rattle.rows.specs.Limits.{sheet_link_limit}
use Rattle.rows.specs.Held.{index_of, is_in}
use Rattle.rows.proofs.Lists.{index_of-append}
use Rattle.reading.specs.Normal.{distinct}
use Rattle.reading.proofs.normal.ClassNumbers.{distinct_snoc}
use Rattle.filling.specs.Classes.{with_label, with_labels}

-- Whether a number is in a list.
abbrev has : ℕ → List ℕ → Bool
has c [] = false
has c (x ∷ l) = pick (eqb x c) true (has c l)

less-next : (a b : ℕ) → ltb (suc a) (suc b) ≡ ltb a b
less-next a b = go (ltb a b) refl
  where
    go : (t : Bool) → ltb a b ≡ t → ltb (suc a) (suc b) ≡ t
    go true e = let h = ltb-true a b e in lt-ltb (suc a) (suc b) (omega arith)
    go false e = let h = ltb-false a b e in le-ltb (suc a) (suc b) (omega arith)

has-is_in : (x : ℕ) (l : List ℕ) → has x l ≡ is_in x l
unfolding index_of
has-is_in x [] = sym (le-ltb 0 0 (omega arith))
has-is_in x (y ∷ l) = go (eqb y x) (has-is_in x l)
  where
    go : (t : Bool) → has x l ≡ ltb (index_of x l) (length l) → pick t true (has x l) ≡ ltb (pick t 0 (suc (index_of x l))) (suc (length l))
    go true ih = sym (lt-ltb 0 (suc (length l)) (omega arith))
    go false ih = ih ∙ sym (less-next (index_of x l) (length l))

one_more : (l : List ℕ) (x : ℕ) → distinct (l ++ (x ∷ [])) ≡ pick (is_in x (distinct l)) (distinct l) (distinct l ++ (x ∷ []))
one_more l x = distinct_snoc l x ∙ ap (λ b. pick b (distinct l) (distinct l ++ (x ∷ []))) (has-is_in x (distinct l))

abbrev room : ℕ
room = sheet_link_limit + 1

both : (b : Bool) (l k : List ℕ) → l ≡ k → pick b l k ≡ l
both true l k e = refl
both false l k e = sym e

label-next : (d : List ℕ) (x : ℕ) → with_label (take room d) x ≡ take room (pick (is_in x d) d (d ++ (x ∷ [])))
unfolding with_label
label-next d x = go (dec_le (length d) room)
  where
    short : length d ≤ room → (b : Bool) → pick b d (take room (d ++ (x ∷ []))) ≡ take room (pick b d (d ++ (x ∷ [])))
    short h true = sym (take_all room d h)
    short h false = refl

    long : room ≤ length d → (a b : Bool) → pick a (take room d) (take room (take room d ++ (x ∷ []))) ≡ take room (pick b d (d ++ (x ∷ [])))
    long h a b =
        let n : length (take room d) ≡ room = length-take-le room d h in
        let p : take room (take room d ++ (x ∷ [])) ≡ take room d = take-append-le room (take room d) (x ∷ []) (omega arith) ∙ take_all room (take room d) (omega arith) in
        both a (take room d) (take room (take room d ++ (x ∷ []))) (sym p) ∙ right b
      where
        right : (b : Bool) → take room d ≡ take room (pick b d (d ++ (x ∷ [])))
        right true = refl
        right false = sym (take-append-le room d (x ∷ []) h)

    go : Dec (length d ≤ room) → pick (is_in x (take room d)) (take room d) (take room (take room d ++ (x ∷ []))) ≡ take room (pick (is_in x d) d (d ++ (x ∷ [])))
    go (yes h) = ap (λ l. pick (is_in x l) l (take room (l ++ (x ∷ [])))) (take_all room d h) ∙ short h (is_in x d)
    go (no k) = long (omega arith) (is_in x (take room d)) (is_in x d)

labels-after : (l a : List ℕ) → with_labels (take room (distinct a)) l ≡ take room (distinct (a ++ l))
unfolding with_labels
labels-after [] a = ap (λ l. take room (distinct l)) (sym (append-nil a))
labels-after (x ∷ l) a =
    ap (λ r. with_labels r l) (label-next (distinct a) x ∙ ap (take room) (sym (one_more a x)))
    ∙ labels-after l (a ++ (x ∷ [])) ∙ ap (λ l. take room (distinct l)) (append_assoc a (x ∷ []) l)

pub labels_append : (r l k : List ℕ) → with_labels r (l ++ k) ≡ with_labels (with_labels r l) k
unfolding with_labels
labels_append r [] k = refl
labels_append r (x ∷ l) k = labels_append (with_label r x) l k

pub labels-distinct : (l : List ℕ) → with_labels [] l ≡ take room (distinct l)
unfolding distinct
labels-distinct l = labels-after l []

-- A label taken in comes last; or it was there, or there was no room.
label-cases : (l : List ℕ) (x : ℕ) → length l ≤ room → ((with_label l x ≡ l ++ (x ∷ [])) × (length l < room)) ⊎ ((with_label l x ≡ l) × ((index_of x l < length l) ⊎ (length l ≡ room)))
unfolding with_label
label-cases l x h = go (is_in x l) refl (dec_le (length l + 1) room)
  where
    go : (b : Bool) → is_in x l ≡ b → Dec (length l + 1 ≤ room)
        → ((pick b l (take room (l ++ (x ∷ []))) ≡ l ++ (x ∷ [])) × (length l < room)) ⊎ ((pick b l (take room (l ++ (x ∷ []))) ≡ l) × ((index_of x l < length l) ⊎ (length l ≡ room)))
    go true e d = inr (refl, inl (ltb-true (index_of x l) (length l) e))
    go false e (yes k) = inl (take_all room (l ++ (x ∷ [])) (simp length-append (omega arith)), omega arith)
    go false e (no k) = inr (take-append-le room l (x ∷ []) (omega arith) ∙ take_all room l h, inr (omega arith))

-- Labels taken in come after those that are there.
abbrev Grows : List ℕ → List ℕ → Type 0
Grows l r = (e : List ℕ) × ((r ≡ l ++ e) × (length (l ++ e) ≤ room))

labels-grow : (l more : List ℕ) → length l ≤ room → Grows l (with_labels l more)
unfolding with_labels
labels-grow l [] h = ([], (sym (append-nil l), simp length-append (omega arith)))
labels-grow l (x ∷ more) h = ⊎_elim (λ c. last c.0 (labels-grow (l ++ (x ∷ [])) more (longer c.1))) (λ c. same c.0 (labels-grow l more h)) (label-cases l x h)
  where
    longer : length l < room → length (l ++ (x ∷ [])) ≤ room
    longer k = simp length-append (omega arith)

    last : with_label l x ≡ l ++ (x ∷ []) → Grows (l ++ (x ∷ [])) (with_labels (l ++ (x ∷ [])) more) → Grows l (with_labels (with_label l x) more)
    last q r =
        let a = append_assoc l (x ∷ []) r.0 in
        (x ∷ r.0, (ap (λ t. with_labels t more) q ∙ r.1.0 ∙ a, subst (λ (t : List ℕ). length t ≤ room) a r.1.1))

    same : with_label l x ≡ l → Grows l (with_labels l more) → Grows l (with_labels (with_label l x) more)
    same q r = (r.0, (ap (λ t. with_labels t more) q ∙ r.1.0, r.1.1))

index_at : (x : ℕ) (l e : List ℕ) → index_of x (l ++ (x ∷ e)) ≡ index_of x l
unfolding index_of
index_at x [] e = rw (eq-eqb x x refl)
index_at x (y ∷ l) e = ap (λ (n : ℕ). pick (eqb y x) 0 (suc n)) (index_at x l e)

-- The number that a label gets, it keeps.
pub label_kept : (l : List ℕ) (x : ℕ) → length l ≤ room → (later : List ℕ) → index_of x (with_labels (with_label l x) later) ≡ index_of x l
label_kept l x h later = ⊎_elim (λ c. last c.0 c.1) (λ c. ap (λ t. index_of x (with_labels t later)) c.0 ∙ same c.1) (label-cases l x h)
  where
    last : with_label l x ≡ l ++ (x ∷ []) → length l < room → index_of x (with_labels (with_label l x) later) ≡ index_of x l
    last q k =
        let r = labels-grow (l ++ (x ∷ [])) later (simp length-append (omega arith)) in
        ap (λ t. index_of x (with_labels t later)) q ∙ ap (index_of x) (r.1.0 ∙ append_assoc l (x ∷ []) r.0) ∙ index_at x l r.0

    same : (index_of x l < length l) ⊎ (length l ≡ room) → index_of x (with_labels l later) ≡ index_of x l
    same (inl k) = let r = labels-grow l later h in ap (index_of x) r.1.0 ∙ index_of-append x l r.0 k
    same (inr k) =
        let r = labels-grow l later h in
        ap (index_of x) (r.1.0 ∙ ap (λ (t : List ℕ). l ++ t) (none r.0 (omega (arith, simp length-append at r.1.1))) ∙ append-nil l)
      where
        none : (e : List ℕ) → length e ≤ 0 → e ≡ []
        none [] q = refl
        none (y ∷ e) q = absurd (omega arith)
