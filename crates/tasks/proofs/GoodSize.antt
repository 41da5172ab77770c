-- A good placing of a figure without blanks: the figure has no more atoms and no more links than the sheet.
use Prim.Native.Nat.{ℕ, suc, ◌-◌, ◌≤◌}
use mathlib.Core.Path.{◌≡◌, refl, ap, sym, ◌∙◌, subst}
use mathlib.Core.Logic.{◌⊎◌, inl, inr}
use mathlib.Core.List.Memᴰ
use mathlib.Core.List.{[], ◌++◌, map}
use native.Mathlib.Omega.{arith}
use lib.ListN.{length, get_or, length-map}
use Rattle.hyperlmntal.specs.Link.{◌∈◌}
use Rattle.reading.proofs.normal.Distinct.{once-length}
use Rattle.placing.specs.Net.{NetCell, Net, Range, cell_links, mark_links, NormalSheet}
use Rattle.placing.specs.Placing.{Placing, cell_at, atom_target, link_target, Linked, here, step, Good}
use Rattle.placing.proofs.Lists.{member-at, get_d_of, table-length}
use Rattle.placing.proofs.Orders.{up_to, up-to-in, up-to-out, count-once}
use Rattle.placing.proofs.Standing.{of-cells, of-marks, atom-link, mark-link, cell_in}
use Rattle.filling.proofs.ResultNet.{once-map}

up-to-length : (n : ℕ) → length (up_to n) ≡ n
up-to-length n = table-length (λ i. i) 1 n

-- A function that keeps the numbers from 1 to n apart and sends them to numbers from 1 to m.
fewer : (f : ℕ → ℕ) (n m : ℕ) → ((x : ℕ) → Range n x → Range m (f x)) → ((x y : ℕ) → Range n x → Range n y → f x ≡ f y → x ≡ y) → n ≤ m
fewer f n m h d =
    let a = once-length (map f (up_to n)) (up_to m) (once-map f (up_to n) (count-once 1 n) (λ x y i j. d x y (up-to-out n x i) (up-to-out n y j))) inside in
    omega (arith, length-map (up_to n) f, up-to-length n, up-to-length m)
  where
    inside : (x : ℕ) → x ∈ map f (up_to n) → x ∈ up_to m
    inside x i = let t : (y : ℕ) × (y ∈ up_to n) × (f y ≡ x) = Memᴰ.of_map f (up_to n) i in Memᴰ.cast (sym t.2) (up-to-in m (f t.0) (h t.0 (up-to-out n t.0 t.1)))

module _ (S F : Net) (s : NormalSheet S) (f : NormalSheet F) (p : Placing) (g : Good S F p) where
  pub good-atoms : length F.atoms ≤ length S.atoms
  good-atoms = fewer (atom_target p) (length F.atoms) (length S.atoms) g.sending.to-atoms g.sending.different

  -- Every link stands on an atom or has a mark, and goes where that goes.
  atom-there : (x : ℕ) (c : NetCell) → c ∈ F.atoms → x ∈ c.1 → Range S.links (link_target p x)
  atom-there x c i j =
      let t = member-at F.atoms c i in
      let k = suc t.0 in
      let b : Range (length F.atoms) k = (omega arith, omega (arith, t.1)) in
      let q : k - 1 ≡ t.0 = omega arith in
      let e : cell_at F.atoms k ≡ c = ap (λ i. get_or F.atoms i (0, [])) q ∙ get_d_of F.atoms t.0 (0, []) c t.2 in
      let m : link_target p x ∈ map (link_target p) (cell_at F.atoms k).1 = Memᴰ.map (link_target p) (subst (λ d. x ∈ d.1) (sym e) j) in
      atom-link S s.normal (cell_at S.atoms (atom_target p k)) (link_target p x) (cell_in S.atoms (atom_target p k) (g.sending.to-atoms k b)) (subst (λ l. link_target p x ∈ l) (g.across k b).places m)

  there : (x : ℕ) → Range F.links x → Range S.links (link_target p x)
  there x r = first (Memᴰ.append_cases (cell_links F.atoms) (f.normal.used x r))
    where
      second : (x ∈ cell_links F.contexts) ⊎ (x ∈ mark_links F.marks) → Range S.links (link_target p x)
      second (inl k) = absurd (Memᴰ.not-nil (subst (λ l. x ∈ cell_links l) f.no-contexts k))
      second (inr k) = let t = of-marks F.marks x k in mark-link S s.normal (link_target p x) t.0 (g.same-marks.onward x t.0 t.1)

      first : (x ∈ cell_links F.atoms) ⊎ (x ∈ cell_links F.contexts ++ mark_links F.marks) → Range S.links (link_target p x)
      first (inl k) = let t = of-cells F.atoms x k in atom-there x t.0 t.1 t.2
      first (inr k) = second (Memᴰ.append_cases (cell_links F.contexts) k)

  -- Without blanks there are no steps.
  no_steps : {y x z : ℕ} → Linked S F p y x z → x ≡ z
  no_steps here = refl
  no_steps (step k l) = absurd (Memᴰ.not-nil (subst (λ l. k.row ∈ l) f.no-contexts k.of-figure))

  pub good-links : F.links ≤ S.links
  good-links =
      fewer (link_target p) F.links S.links there
      (λ x y a b e. no_steps (g.linked x y (link_target p x) (record { figure-link = a; sheet-link = there x a; there = refl }) (record { figure-link = b; sheet-link = there x a; there = sym e })))
