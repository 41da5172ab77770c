-- The search from the beginning gives the smallest good placing.
use Prim.Native.Nat.{ℕ}
use mathlib.Core.Path.{◌≡◌, refl, ap, sym, ◌∙◌}
use mathlib.Core.List.{List, []}
use mathlib.Core.Bool.{Bool, true, false}
use mathlib.Core.Option.{Option, none, some}
use native.Mathlib.Omega.{arith}
use lib.ListN.{length, take}
use lib.Seq.{length-take-le}
use Rattle.rows.specs.Pick.{pick}
use Rattle.rows.specs.Limits.{sheet_atom_limit, sheet_link_limit}
use Rattle.rows.specs.declared.Sheet as form
use Rattle.placing.specs.Placing.{Placing}
use Rattle.placing.specs.Smallest.{placing_from, placing_in, smallest}
use Rattle.placing.proofs.SmallestLaws.{placing-of-list}
use Rattle.network.specs.NetIn.{net_in}
use Rattle.network.specs.Begun.{least_after}
use Rattle.network.proofs.NetIn.{atoms-length}
use Rattle.network.specs.Ready.{Ready, AtomsIn}
use Rattle.candidates.specs.Frames.{FrameOf, whole}
use Rattle.candidates.specs.Laid.{LaidOut}
use Rattle.candidates.specs.declared.frame.Frame.{Frame}
use Rattle.candidates.proofs.Framing.{whole-laid, whole-smallest}
use Rattle.matching.specs.Search.{behind, search_from, found_list, found_in, placed_in}
use Rattle.matching.specs.declared.search.Found.{Found}

behind-nothing : (o : Option (List ℕ)) → behind [] o ≡ o
behind-nothing none = refl
behind-nothing (some l) = refl

-- nothing is chosen yet
pub no-atoms : (sheet : form.Sheet) (chosen : List ℕ) → length chosen ≡ sheet_atom_limit → AtomsIn sheet 0 chosen
no-atoms sheet chosen e = record { room = e; within = λ i h. absurd (omega arith) }

module _ (sheet figure : form.Sheet) (ready : Ready sheet figure) (r : Found) (atoms : length r.atoms_to ≡ sheet_atom_limit) (links : length r.links_to ≡ sheet_link_limit) where
  abbrev parts : Placing
  parts = record { atoms_to = take figure.atom_count r.atoms_to; links_to = take figure.class_count r.links_to; given = take sheet.atom_count r.given }

  parts-list : placing_from (net_in sheet) (net_in figure) (found_list sheet figure r) ≡ parts
  parts-list =
      placing-of-list (length (net_in figure).atoms) figure.class_count parts
      (length-take-le figure.atom_count r.atoms_to (omega (arith, ready.figure-fit.atom-count)) ∙ sym (atoms-length figure ready.figure-fit))
      (length-take-le figure.class_count r.links_to (omega (arith, ready.figure-fit.class-count)))

  placed-found : placed_in sheet figure r ≡ placing_in (net_in sheet) (net_in figure) (found_in sheet figure r)
  placed-found = go r.ok
    where
      go : (ok : Bool) → pick ok (some parts) none ≡ placing_in (net_in sheet) (net_in figure) (pick ok (some (found_list sheet figure r)) none)
      go true = ap some (sym parts-list)
      go false = refl

  pub placed-smallest : found_in sheet figure r ≡ search_from (net_in sheet) (net_in figure) [] → placed_in sheet figure r ≡ smallest (net_in sheet) (net_in figure)
  unfolding smallest
  placed-smallest e = placed-found ∙ ap (placing_in (net_in sheet) (net_in figure)) (e ∙ behind-nothing (least_after (net_in sheet) (net_in figure) []))

-- Nets whose atoms are laid out are ready.
pub laid-ready : (sheet figure : form.Sheet) (laid : List ℕ) (n : ℕ) (parts : List ℕ) (m : ℕ) → LaidOut sheet laid n → LaidOut figure parts m → Ready sheet figure
laid-ready sheet figure laid n parts m os of = record { sheet-fit = os.fit; figure-fit = of.fit; sheet-normal = os.normal; figure-normal = of.normal }

-- A sheet and a figure whose atoms are laid out, and their frames.
module _ (sheet figure : form.Sheet) (laid parts : List ℕ) (os : LaidOut sheet laid sheet.atom_count) (of : LaidOut figure parts figure.atom_count) (s f : Frame) (d : FrameOf sheet s) (e : FrameOf figure f) where
  pub whole-ready : Ready (whole s laid) (whole f parts)
  whole-ready = laid-ready (whole s laid) (whole f parts) laid s.atom_count parts f.atom_count (whole-laid sheet laid os s d) (whole-laid figure parts of f e)

  -- What is the smallest for the frames is so for the sheet and the figure.
  pub placed-whole : (r : Found) → placed_in (whole s laid) (whole f parts) r ≡ smallest (net_in (whole s laid)) (net_in (whole f parts)) → placed_in sheet figure r ≡ smallest (net_in sheet) (net_in figure)
  placed-whole r h =
      let counts : placed_in sheet figure r ≡ placed_in (whole s laid) (whole f parts) r = rw (d.is, e.is) refl in
      counts ∙ (h ∙ whole-smallest sheet figure laid parts os of s f d e)

  -- So is what the search finds for them, from the beginning.
  pub found-whole : (r : Found) → length r.atoms_to ≡ sheet_atom_limit → length r.links_to ≡ sheet_link_limit → found_in (whole s laid) (whole f parts) r ≡ search_from (net_in (whole s laid)) (net_in (whole f parts)) [] → placed_in sheet figure r ≡ smallest (net_in sheet) (net_in figure)
  found-whole r atoms links h = placed-whole r (placed-smallest (whole s laid) (whole f parts) whole-ready r atoms links h)
