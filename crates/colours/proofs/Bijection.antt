-- A good placing of a figure without contexts in a sheet: a bijection of the atoms and one of the links.
use Rattle.std.proofs.Common.{◌≡◌, ℕ, suc, ◌-◌, ◌<◌, ◌⊎◌, ◌↔◌, List, [], ◌++◌, length, get_or, sym, refl, ap, ◌∙◌, subst, inl, inr, arith}
use mathlib.Core.List.Memᴰ
use Rattle.hyperlmntal.specs.Link.{◌∈◌}
use Rattle.placing.specs.Net.{NetCell, Net, Range, cell_links, mark_links, NormalSheet}
use Rattle.placing.specs.Placing.{Placing, cell_at, atom_target, link_target, Taken, Good}
use Rattle.placing.proofs.Lists.{member-at, get_d_of}
use Rattle.placing.proofs.Standing.{of-cells, of-marks, place-link, mark-link}
use Rattle.network.proofs.Sums.{From, Across}
use Rattle.candidates.specs.Sets.{Decided, by-atom, by-mark}
use Rattle.candidates.proofs.GoodPlaces.{decided-real}
use Rattle.candidates.proofs.Kinship.{together-kin, kin-labels}
use Rattle.completing.proofs.Decide.{taken-dec}

no_row : (N : Net) → N.contexts ≡ [] → (c : NetCell) → ¬ (c ∈ N.contexts)
no_row N e c m = Memᴰ.not-nil (subst (λ (l : List NetCell). c ∈ l) e m)

-- a row by its number
row_number : (l : List NetCell) (c : NetCell) → c ∈ l → (i : ℕ) × Range (length l) i × (cell_at l i ≡ c)
row_number l c m =
    let t = member-at l c m in
    let h : t.0 < length l = t.1 in
    (suc t.0, (omega arith, omega arith), ap (λ (j : ℕ). get_or l j (0, [])) (let q : suc t.0 - 1 ≡ t.0 = omega arith in q) ∙ get_d_of l t.0 (0, []) c t.2)

-- Every link of a sheet is on an atom or has a mark.
sheet-decided : (N : Net) → NormalSheet N → (x : ℕ) → Range N.links x → Decided N x
sheet-decided N s x r = go (Memᴰ.append_cases (cell_links N.atoms) (s.normal.used x r))
  where
    on-atom : (c : NetCell) × (c ∈ N.atoms) × (x ∈ c.1) → Decided N x
    on-atom (c, m, i) = let t = row_number N.atoms c m in by-atom t.0 t.1 (subst (λ (d : NetCell). x ∈ d.1) (sym t.2) i)

    rest : (x ∈ cell_links N.contexts) ⊎ (x ∈ mark_links N.marks) → Decided N x
    rest (inl i) = let t = of-cells N.contexts x i in absurd (no_row N s.no-contexts t.0 t.1)
    rest (inr i) = let t = of-marks N.marks x i in by-mark t.0 t.1

    go : (x ∈ cell_links N.atoms) ⊎ (x ∈ cell_links N.contexts ++ mark_links N.marks) → Decided N x
    go (inl i) = on-atom (of-cells N.atoms x i)
    go (inr i) = rest (Memᴰ.append_cases (cell_links N.contexts) i)

module _ (S F : Net) (NS : NormalSheet S) (NF : NormalSheet F) (p : Placing) (g : Good S F p) where
  pub all-taken : (j : ℕ) → Range (length S.atoms) j → Taken S F p j
  all-taken j r = go (taken-dec S F p j)
    where
      go : Dec (Taken S F p j) → Taken S F p j
      go (yes t) = t
      go (no n) = let c = g.sending.to-contexts j r n in absurd (no_row F NF.no-contexts c.0 c.1)

  pub atoms-across : Across (length F.atoms) (length S.atoms) (atom_target p)
  atoms-across = record { within = g.sending.to-atoms; one = g.sending.different; all = λ j r. let t = all-taken j r in (t.by, t.of-figure, t.there) }

  link-real : (x : ℕ) → Range F.links x → Range S.links (link_target p x)
  link-real x r = decided-real S F NS.normal NF.normal p g x (sheet-decided F NF x r)

  pub link-one : (x x' : ℕ) → Range F.links x → Range F.links x' → link_target p x ≡ link_target p x' → x ≡ x'
  link-one x x' r r' e = kin-labels F (λ y. y) (λ row m. absurd (no_row F NF.no-contexts row m)) (together-kin S F p g x x' (link_target p x') (record { figure-link = r; sheet-link = link-real x' r'; there = e }) (record { figure-link = r'; sheet-link = link-real x' r'; there = refl }))

  link-from : (y : ℕ) → Decided S y → From F.links (link_target p) y
  link-from y (by-atom j r m) = sent (Memᴰ.of_map (link_target p) (cell_at F.atoms t.by).1 (subst (λ (l : List ℕ). y ∈ l) (sym (g.across t.by t.of-figure).places) (subst (λ (k : ℕ). y ∈ (cell_at S.atoms k).1) (sym t.there) m)))
    where
      t : Taken S F p j
      t = all-taken j r

      sent : (x : ℕ) × (x ∈ (cell_at F.atoms t.by).1) × (link_target p x ≡ y) → From F.links (link_target p) y
      sent (x, k, e) = (x, place-link F NF.normal t.by x t.of-figure k, e)
  link-from y (by-mark m i) =
      let b = g.same-marks.backward y m i in
      (b.0, mark-link F NF.normal b.0 m b.1, NS.normal.one_link (link_target p b.0) y m (g.same-marks.onward b.0 m b.1) i)

  pub links-across : Across F.links S.links (link_target p)
  links-across = record { within = link-real; one = link-one; all = λ y r. link-from y (sheet-decided S NS y r) }

  -- A figure link and the sheet link that it goes to have the same marks.
  pub marks-across : (x : ℕ) → Range F.links x → (m : ℕ) → ((x, m) ∈ F.marks) ↔ ((link_target p x, m) ∈ S.marks)
  marks-across x r m = (g.same-marks.onward x m, back)
    where
      back : (link_target p x, m) ∈ S.marks → (x, m) ∈ F.marks
      back i =
          let b = g.same-marks.backward (link_target p x) m i in
          let e = link-one x b.0 r (mark-link F NF.normal b.0 m b.1) (NS.normal.one_link (link_target p x) (link_target p b.0) m i (g.same-marks.onward b.0 m b.1)) in
          subst (λ (z : ℕ). (z, m) ∈ F.marks) (sym e) b.1
