-- Which links stand on at most one context row, context by context.
use Prim.Native.Nat.{ℕ, suc, ◌+◌, ◌-◌, ◌/◌, ◌%◌, ◌<◌}
use mathlib.Core.Path.{◌≡◌, sym, ◌∙◌, ap, subst}
use mathlib.Core.List.{List}
use native.Mathlib.Decide.{dec_lt}
use native.Mathlib.Omega.{arith}
use lib.ListN.{get_or}
use Rattle.hyperlmntal.specs.Link.{◌∈◌}
use Rattle.rows.specs.Limits.{sheet_link_limit}
use Rattle.rows.specs.declared.Sheet as form
use Rattle.placing.specs.Net.{NetCell}
use Rattle.network.specs.NetIn.{net_in, context_in, context_at}
use Rattle.network.proofs.NetIn.{context-of}
use Rattle.candidates.specs.Words.{word_digits, In, InPair, fewer_pair}
use Rattle.candidates.specs.PortSets.{set_at, PortIn, ContextsIn}
use Rattle.candidates.specs.declared.ports.PortSet.{PortSet}
use Rattle.candidates.proofs.Digits.{in-dec, fewer-in}
use Rattle.candidates.proofs.Halves.{by-half, in_pair, in-fewer-pair, fewer-pair-in}
use Rattle.candidates.proofs.PortRows.{in-port}
use Rattle.completing.specs.OneRow.{OneRow}
use Rattle.deciding.specs.Several.{OnOne}

fewer-pair-part : (a b r : List ℕ) (y : ℕ) → y < sheet_link_limit → r ≡ fewer_pair a b → InPair r y → InPair a y
unfolding fewer_pair
fewer-pair-part a b r y h e = by-half (λ z. In (get_or r z 0) (y % word_digits) → In (get_or a z 0) (y % word_digits)) y (in_pair h)
    (λ i. (fewer-in _ _ _ (ap (λ (l : List ℕ). get_or l 0 0) e) (y % word_digits) i).0) (λ i. (fewer-in _ _ _ (ap (λ (l : List ℕ). get_or l 1 0) e) (y % word_digits) i).0)

-- no link of the set is on one of the first c contexts
abbrev pub OnNone : List PortSet → ℕ → List ℕ → Type 0
OnNone sets c fresh = (x i : ℕ) → x < sheet_link_limit → i < c → InPair fresh x → ¬ PortIn sets i x

module _ (sets : List PortSet) (c : ℕ) (fresh : List ℕ) (none : OnNone sets c fresh) where
  pub none-next : (left : List ℕ) → left ≡ fewer_pair fresh (set_at sets c).links → OnNone sets (c + 1) left
  none-next left e x i h k m p = go (dec_lt i c)
    where
      go : Dec (i < c) → ⊥
      go (yes w) = none x i h w (fewer-pair-part _ _ left x h e m) p
      go (no w) = let q : i ≡ c = omega arith in fewer-pair-in _ _ left x h e m (subst (λ (j : ℕ). PortIn sets j x) q p)

  pub one-next : (single again less : List ℕ) → OnOne sets c single → again ≡ fewer_pair (set_at sets c).links fresh → less ≡ fewer_pair single again → OnOne sets (c + 1) less
  one-next single again less one e f x i j h k l m p q = go (dec_lt i c) (dec_lt j c)
    where
      -- a link of this context is on none of those before
      new : PortIn sets c x → (n : ℕ) → n < c → ¬ PortIn sets n x
      new w n b r = by (in-dec (get_or fresh (x / word_digits) 0) (x % word_digits))
        where
          by : Dec (InPair fresh x) → ⊥
          by (yes u) = none x n h b u r
          by (no u) = fewer-pair-in _ _ less x h f m (in-fewer-pair _ _ again x h e w u)

      here : (n : ℕ) → n ≡ c → PortIn sets n x → PortIn sets c x
      here n b w = subst (λ (v : ℕ). PortIn sets v x) b w

      go : Dec (i < c) → Dec (j < c) → i ≡ j
      go (yes a) (yes b) = one x i j h a b (fewer-pair-part _ _ less x h f m) p q
      go (yes a) (no b) = absurd (new (here j (omega arith) q) i a p)
      go (no a) (yes b) = absurd (new (here i (omega arith) p) j b q)
      go (no a) (no b) = omega arith

-- for the rows of the net
module _ {figure : form.Sheet} {sets : List PortSet} {rows links : ℕ} (o : ContextsIn figure sets rows links) where
  pub one-row : (single : List ℕ) → OnOne sets rows single → (x : ℕ) → x < sheet_link_limit → InPair single x → OneRow (net_in figure) (suc x)
  one-row single one x h m row row' a b p q = go (context-of figure o.fit row a) (context-of figure o.fit row' b)
    where
      port : (i : ℕ) → i < rows → suc x ∈ (context_in (context_at figure i)).1 → PortIn sets i x
      port i k w = let e : suc x - 1 ≡ x = omega arith in subst (PortIn sets i) e (in-port o i (suc x) k w).2

      go : (i : ℕ) × (i < figure.context_count) × (context_in (context_at figure i) ≡ row) → (j : ℕ) × (j < figure.context_count) × (context_in (context_at figure j) ≡ row') → row ≡ row'
      go (i, u, e) (j, v, f) =
          let k : i < rows = omega (arith, u, o.row_count) in
          let l : j < rows = omega (arith, v, o.row_count) in
          let s = one x i j h k l m (port i k (subst (λ (n : NetCell). suc x ∈ n.1) (sym e) p)) (port j l (subst (λ (n : NetCell). suc x ∈ n.1) (sym f) q)) in
          sym e ∙ (ap (λ (n : ℕ). context_in (context_at figure n)) s ∙ f)
