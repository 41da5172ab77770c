-- Marks one by one, and places of links, in the terms of the arrays.
use Prim.Native.Nat.{ℕ, ◌+◌, ◌-◌, ◌<◌}
use mathlib.Core.Path.{◌≡◌, sym, ◌∙◌, ap, subst}
use mathlib.Core.List.{List}
use native.Mathlib.Omega.{arith}
use lib.ListN.{get_or}
use Rattle.hyperlmntal.specs.Link.{◌∈◌}
use Rattle.rows.specs.declared.Sheet.{Sheet as NormalForm}
use Rattle.network.specs.NetIn.{net_in}
use Rattle.network.proofs.NetIn.{mark-in, mark_of}
use Rattle.candidates.specs.Marks.{MarksIn}
use Rattle.candidates.proofs.Marks.{mark-links}
use Rattle.starting.specs.Steps.{Enough, MarksOn, MarksBack}

module _ (net : NormalForm) (marks marked : List ℕ) (n : ℕ) (o : MarksIn net marks marked n) where
  mark-there : (p : ℕ) → p < n → (get_or marked p 0, get_or marks p 0) ∈ (net_in net).marks
  mark-there p h =
      subst (λ (l : List ℕ). (get_or l p 0, get_or marks p 0) ∈ (net_in net).marks) o.same-marked
      (subst (λ (l : List ℕ). (get_or net.marked p 0, get_or l p 0) ∈ (net_in net).marks) o.same-marks (mark-in net o.fit p (omega (arith, h, o.count))))

  mark-at : (p z : ℕ) → p < n → z ≡ get_or marked p 0 - 1 → (z + 1, get_or marks p 0) ∈ (net_in net).marks
  mark-at p z h e =
      let r = (mark-links net marks marked n o).numbered p h in
      subst (λ (w : ℕ). (w, get_or marks p 0) ∈ (net_in net).marks) (let q : get_or marked p 0 ≡ z + 1 = omega (arith, e, r.0) in q) (mark-there p h)

  -- the link of a mark
  pub mark-found : (m p : ℕ) → p < n → get_or marks p 0 ≡ m → (x : ℕ) → (x, m) ∈ (net_in net).marks → x ≡ get_or marked p 0
  mark-found m p h e x i = o.normal.one_link x (get_or marked p 0) m i (subst (λ (k : ℕ). (get_or marked p 0, k) ∈ (net_in net).marks) e (mark-there p h))

  pub mark-nowhere : (m : ℕ) → ((p : ℕ) → p < n → get_or marks p 0 ≡ m → ⊥) → (x : ℕ) → ¬ ((x, m) ∈ (net_in net).marks)
  mark-nowhere m f x i =
      let t = mark_of net o.fit (x, m) i in
      f t.0 (omega (arith, t.1, o.count)) (ap (λ (l : List ℕ). get_or l t.0 0) (sym o.same-marks) ∙ ap (λ (e : ℕ × ℕ). e.1) t.2)

module _ (sheet figure : NormalForm) (marks marked : List ℕ) (n : ℕ) where
  -- the sheet link y of a figure mark is where its link goes
  pub mark_on : MarksIn figure marks marked n → (p y : ℕ) → p < n → ((w : ℕ) → (w, get_or marks p 0) ∈ (net_in sheet).marks → w ≡ y)
      → (z v : ℕ) → MarksOn sheet figure z v → z ≡ get_or marked p 0 - 1 → v + 1 ≡ y
  mark_on o p y h f z v m e = f (v + 1) (m (get_or marks p 0) (mark-at figure marks marked n o p z h e))

  -- the figure link x of a sheet mark is the one that goes to its link
  pub mark-back : MarksIn sheet marks marked n → (q x : ℕ) → q < n → ((w : ℕ) → (w, get_or marks q 0) ∈ (net_in figure).marks → w ≡ x)
      → (z v : ℕ) → MarksBack sheet figure z v → v ≡ get_or marked q 0 - 1 → z + 1 ≡ x
  mark-back o q x h f z v m e = f (z + 1) (m (get_or marks q 0) (mark-at sheet marks marked n o q v h e))

pub enough-same : {c w t a b d : ℕ} → Enough c w t → c ≡ a → w ≡ b → t ≡ d → Enough a b d
enough-same e p q r = record { least = omega (arith, e.least, q, r); exact = λ o. omega (arith, e.exact (omega (arith, o, p)), q, r) }
