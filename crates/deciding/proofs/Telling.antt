-- What placed atoms say of the figure links, as the code reads it.
use Prim.Native.Nat.{ℕ, suc, ◌+◌, ◌-◌, ◌≤◌, ◌<◌}
use mathlib.Core.Path.{◌≡◌, sym, ◌∙◌, ap, subst}
use mathlib.Core.Logic.{◌≢◌, ◌⊎◌, inl, inr}
use mathlib.Core.List.{List}
use native.Mathlib.Omega.{arith}
use native.Mathlib.Numerals.{add-one}
use lib.ListN.{length, take, get_or, replicate, length-map, length-replicate}
use lib.Seq.{get_or-take}
use Rattle.hyperlmntal.specs.Link.{◌∈◌}
use Rattle.rows.specs.Limits.{sheet_link_limit}
use Rattle.rows.specs.declared.Atom.{Atom}
use Rattle.rows.proofs.Padding.{get_d-filled}
use Rattle.rows.specs.declared.Sheet as form
use Rattle.placing.specs.Net.{NetCell, Net, Range}
use Rattle.placing.specs.Placing.{Placing, number_at, cell_at, atom_target, link_target}
use Rattle.network.specs.NetIn.{atom_in, net_in, atom_at, Used}
use Rattle.network.specs.Ready.{Ready, AtomsIn}
use Rattle.network.proofs.NetIn.{used-length, used-at, used-in, atoms-length, atom-cell, atom-index, atom-used}
use Rattle.completing.specs.Leaf.{NoneWith}
use Rattle.completing.proofs.State.{by-atom}
use Rattle.deciding.specs.Links.{AcrossFrom, PlacesIn, Clash, Tells, Told}
use Rattle.deciding.specs.Agrees.{AtomAgrees, AtomsAgreeTo}
use Rattle.deciding.proofs.Sets.{below-cases}
use Rattle.deciding.proofs.Places.{agree-kept, number-some}

-- nothing is told yet
pub told-start : (sheet figure : form.Sheet) (atoms to : List ℕ) → to ≡ replicate sheet_link_limit 0 → Told sheet figure atoms to
told-start sheet figure atoms to e = record {
  room = ap length e ∙ length-replicate {A = ℕ} sheet_link_limit 0;
  told = λ x n. absurd (n (ap (λ (l : List ℕ). get_or l x 0) e ∙ get_d-filled {A = ℕ} 0 sheet_link_limit x));
}

-- two places tell different links
pub tells-clash : (S F : Net) (l : List ℕ) (x y z : ℕ) → Tells S F l x y → Tells S F l x z → y ≢ z → NoneWith S F l
tells-clash S F l x y z a b d p g e = d (sym (a.said p g e) ∙ b.said p g e)

module _ (sheet figure : form.Sheet) (ready : Ready sheet figure) (atoms : List ℕ) (a : AtomsIn sheet figure.atom_count atoms) where
  abbrev S : Net
  S = net_in sheet

  abbrev F : Net
  F = net_in figure

  abbrev l : List ℕ
  l = take figure.atom_count atoms

  module _ (i : ℕ) (less : i < figure.atom_count) where
    abbrev mine : Atom
    mine = atom_at figure i

    abbrev there : Atom
    there = atom_at sheet (get_or atoms i 0 - 1)

    figure-range : Range (length F.atoms) (i + 1)
    figure-range = (omega arith, omega (arith, atoms-length figure ready.figure-fit))

    number : number_at l (i + 1) ≡ get_or atoms i 0
    number = ap (λ (j : ℕ). get_or l j 0) (let q : i + 1 - 1 ≡ i = omega arith in q) ∙ get_or-take figure.atom_count atoms i 0 less

    figure-cell : cell_at F.atoms (i + 1) ≡ atom_in mine
    figure-cell = atom-index figure ready.figure-fit i less

    sheet-cell : cell_at S.atoms (number_at l (i + 1)) ≡ atom_in there
    sheet-cell = ap (cell_at S.atoms) number ∙ atom-cell sheet ready.sheet-fit (get_or atoms i 0) (a.within i less)

    figure-used : Used figure.class_count mine.count mine.links
    figure-used = ready.figure-fit.atoms i less

    sheet-used : Used sheet.class_count there.count there.links
    sheet-used = atom-used sheet ready.sheet-fit (get_or atoms i 0) (a.within i less)

    -- in a good placing
    good-cell : (p : Placing) → p.atoms_to ≡ l → cell_at S.atoms (atom_target p (i + 1)) ≡ atom_in there
    good-cell p e = ap (λ (k : List ℕ). cell_at S.atoms (number_at k (i + 1))) e ∙ sheet-cell

    pub good-name : mine.name ≢ there.name → NoneWith S F l
    good-name d p g e = d (ap (λ (c : NetCell). c.0) (sym figure-cell) ∙ ((g.across (i + 1) figure-range).name ∙ ap (λ (c : NetCell). c.0) (good-cell p e)))

    pub good-count : mine.count ≢ there.count → NoneWith S F l
    good-count d p g e = d (sym (used-length figure.class_count mine.count mine.links figure-used) ∙ (whole ∙ used-length sheet.class_count there.count there.links sheet-used))
      where
        whole : length (take mine.count mine.links) ≡ length (take there.count there.links)
        whole = ap (λ (c : NetCell). length c.1) (sym figure-cell)
            ∙ (sym (length-map (cell_at F.atoms (i + 1)).1 (link_target p)) ∙ (ap length (g.across (i + 1) figure-range).places ∙ ap (λ (c : NetCell). length c.1) (good-cell p e)))

    module _ (same : mine.count ≡ there.count) where
      pub tells-place : (k : ℕ) → k < mine.count → Tells S F l (get_or mine.links k 0) (get_or there.links k 0)
      tells-place k h = record {
        closed = λ o. o.no-atom (i + 1) figure-range (subst (λ (c : NetCell). get_or mine.links k 0 ∈ c.1) (sym figure-cell) (used-in figure.class_count mine.count mine.links figure-used k h));
        said = λ p g e. subst (λ (x : ℕ). link_target p x ≡ get_or there.links k 0) (at-mine) (by-atom S F l p g e (i + 1) k figure-range far ∙ at_there);
      }
        where
          far : k < length (cell_at F.atoms (i + 1)).1
          far = subst (λ (c : NetCell). k < length c.1) (sym figure-cell) (omega (arith, used-length figure.class_count mine.count mine.links figure-used))

          at-mine : get_or (cell_at F.atoms (i + 1)).1 k 0 ≡ get_or mine.links k 0
          at-mine = ap (λ (c : NetCell). get_or c.1 k 0) figure-cell ∙ used-at figure.class_count mine.count mine.links figure-used k h

          at_there : get_or (cell_at S.atoms (number_at l (i + 1))).1 k 0 ≡ get_or there.links k 0
          at_there = ap (λ (c : NetCell). get_or c.1 k 0) sheet-cell ∙ used-at sheet.class_count there.count there.links sheet-used k (omega arith)

      across-tells : (x y : ℕ) → AcrossFrom mine.links there.links mine.count x y → Tells S F l (suc x) y
      across-tells x y (k, h, e, f) = subst (λ (z : ℕ). Tells S F l z y) e (subst (Tells S F l (get_or mine.links k 0)) f (tells-place k h))

      module _ (to : List ℕ) (t : Told sheet figure atoms to) where
        pub told-next : (r : List ℕ) → PlacesIn to mine.links there.links mine.count r → Told sheet figure atoms r
        told-next r p = record { room = p.room; told = λ x n. go x n (p.each x) }
          where
            go : (x : ℕ) → get_or r x 0 ≢ 0 → (get_or r x 0 ≡ get_or to x 0) ⊎ AcrossFrom mine.links there.links mine.count x (get_or r x 0) → Tells S F l (suc x) (get_or r x 0)
            go x n (inl e) = subst (Tells S F l (suc x)) (sym e) (t.told x (λ f. n (e ∙ f)))
            go x n (inr w) = across-tells x (get_or r x 0) w

        pub clash-none : Clash to mine.links there.links mine.count → NoneWith S F l
        clash-none c = tells-clash S F l (suc c.link) c.first c.second (go c.first-from) (across-tells c.link c.second c.second_from) c.different
          where
            go : (c.first ≡ get_or to c.link 0) ⊎ AcrossFrom mine.links there.links mine.count c.link c.first → Tells S F l (suc c.link) c.first
            go (inl e) = subst (Tells S F l (suc c.link)) (sym e) (t.told c.link (λ f. c.some (e ∙ f)))
            go (inr w) = across-tells c.link c.first w

  -- what agreed still does
  pub atoms-kept : (to r : List ℕ) → ((z : ℕ) → get_or to z 0 ≢ 0 → get_or r z 0 ≡ get_or to z 0) → (n : ℕ) → n ≤ figure.atom_count → AtomsAgreeTo sheet figure atoms to n → AtomsAgreeTo sheet figure atoms r n
  atoms-kept to r kept n few w i h =
      let b = w i h in
      let less : i < figure.atom_count = omega arith in
      record {
        name = b.name;
        count = b.count;
        places = agree-kept to r (mine i less).links (there i less).links (mine i less).count kept (λ k u. number-some (get_or (there i less).links k 0) ((sheet-used i less).numbered k (omega (arith, b.count))).0) b.places;
      }

  pub agree-next : (i : ℕ) → (less : i < figure.atom_count) → (to r : List ℕ) → AtomsAgreeTo sheet figure atoms to i → (mine i less).name ≡ (there i less).name → (mine i less).count ≡ (there i less).count
      → PlacesIn to (mine i less).links (there i less).links (mine i less).count r → AtomsAgreeTo sheet figure atoms r (i + 1)
  agree-next i less to r w name same p j h = below-cases (λ (k : ℕ). AtomAgrees sheet figure r k (get_or atoms k 0 - 1)) i j (omega (arith, add-one i))
      (λ u. atoms-kept to r p.kept i (omega arith) w j u) (record { name = name; count = same; places = p.agree })
