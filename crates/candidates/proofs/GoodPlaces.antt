-- A good placing sends the links of an atom place by place, and each link on an atom or a mark to a sheet link.
use Prim.Native.Nat.{ℕ, ◌<◌}
use mathlib.Core.Path.{◌≡◌, sym, ◌∙◌, ap, subst}
use mathlib.Core.List.Memᴰ
use mathlib.Core.List.{List}
use lib.ListN.{length, get_or, length-map}
use Rattle.hyperlmntal.specs.Link.{◌∈◌}
use Rattle.rows.proofs.Lists.{get_d-mapped}
use Rattle.placing.specs.Net.{Net, Range, Normal}
use Rattle.placing.specs.Placing.{Placing, cell_at, atom_target, link_target, Good}
use Rattle.placing.proofs.Standing.{atom-link, mark-link, cell_in}
use Rattle.candidates.specs.Sets.{Decided, by-atom, by-mark, link_at, link_total}
use Rattle.reading.proofs.normal.Merging.{get_d-in}

module _ (S F : Net) (NS : Normal S) (NF : Normal F) (p : Placing) (g : Good S F p) where
  pub place-count : (i : ℕ) → Range (length F.atoms) i → link_total S (atom_target p i) ≡ link_total F i
  place-count i h = ap length (sym (g.across i h).places) ∙ length-map (cell_at F.atoms i).1 (link_target p)

  pub place-sent : (i k : ℕ) → Range (length F.atoms) i → k < link_total F i → link_at S (atom_target p i) k ≡ link_target p (link_at F i k)
  place-sent i k h l = ap (λ (z : List ℕ). get_or z k 0) (sym (g.across i h).places) ∙ get_d-mapped (link_target p) (cell_at F.atoms i).1 k 0 0 l

  pub place-member : (i k : ℕ) → k < link_total F i → link_at F i k ∈ (cell_at F.atoms i).1
  place-member i k l = get_d-in (cell_at F.atoms i).1 k 0 l

  -- a figure link on an atom or a mark goes to a sheet link
  pub decided-real : (x : ℕ) → Decided F x → Range S.links (link_target p x)
  decided-real x (by-atom i h m) =
      atom-link S NS (cell_at S.atoms (atom_target p i)) (link_target p x) (cell_in S.atoms (atom_target p i) (g.sending.to-atoms i h))
      (subst (λ (l : List ℕ). link_target p x ∈ l) (g.across i h).places (Memᴰ.map (link_target p) m))
  decided-real x (by-mark m h) = mark-link S NS (link_target p x) m (g.same-marks.onward x m h)

  pub decided-link : (x : ℕ) → Decided F x → Range F.links x
  decided-link x (by-atom i h m) = atom-link F NF (cell_at F.atoms i) x (cell_in F.atoms i h) m
  decided-link x (by-mark m h) = mark-link F NF x m h
