-- Pairs of an open link and a sheet link that no completion uses.
use Prim.Native.Nat.{ℕ}
use mathlib.Core.Path.{◌≡◌, sym, subst}
use mathlib.Core.Logic.{◌⊎◌, inl, inr}
use mathlib.Core.List.{List}
use Rattle.hyperlmntal.specs.Link.{◌∈◌}
use Rattle.placing.specs.Net.{Net, Normal}
use Rattle.placing.specs.Placing.{Placing, link_target}
use Rattle.completing.specs.Completion.{Partial, Completion, Completable, put, remove, SameContexts}
use Rattle.completing.specs.Known.{Bars}
use Rattle.completing.proofs.Lists.{of-remove}
use Rattle.completing.proofs.Put.{completion-wider, completion-put, put-completion, put-there}
use Rattle.completing.proofs.Interchange.{interchange}

-- What is barred to some links is barred to fewer.
pub bars-fewer : (S F : Net) (q : Placing) (un un' : List ℕ) (bar : ℕ → ℕ → Type 0) → ((x : ℕ) → x ∈ un' → x ∈ un) → Bars S F q un bar → Bars S F q un' bar
bars-fewer S F q un un' bar f b p c x m = b p (completion-wider S F q un' un f p c) x (f x m)

module _ (S F : Net) (NF : Normal F) (q : Placing) (un : List ℕ) (a : Partial S F q un) (bar : ℕ → ℕ → Type 0) (b : Bars S F q un bar) (x : ℕ) (m : x ∈ un) (y : ℕ) where
  -- It stays barred once a link is settled.
  pub bars-put : Bars S F (put q x y) (remove x un) bar
  bars-put p c z i = b p (put-completion S F NF q un a x m y p c) z (of-remove z x un i).0

  -- A link cannot be settled where it is barred.
  pub barred-refused : bar x y → ¬ Completable S F (put q x y) (remove x un)
  barred-refused h (p, c) = b p (put-completion S F NF q un a x m y p c) x m (subst (bar x) (sym (put-there S F NF q un a x m y p c)) h)

  -- Where it failed once, all links on the same contexts are barred.
  pub failed-bars : ¬ Completable S F (put q x y) (remove x un) → (more : ℕ → ℕ → Type 0) → ((z w : ℕ) → z ∈ un → more z w → bar z w ⊎ (SameContexts F z x × (w ≡ y))) → Bars S F q un more
  failed-bars n more f p c z i h = by (f z (link_target p z) i h)
    where
      by : ¬ (bar z (link_target p z) ⊎ (SameContexts F z x × (link_target p z ≡ y)))
      by (inl u) = b p c z i u
      by (inr (s, e)) = n (interchange S F NF q un a z x y i m s (p, completion-put S F NF q un a z i y p c e))
