-- The least completion, and what completing gives.
use Prim.Native.Nat.{ℕ, suc, ◌+◌, ◌<◌}
use mathlib.Core.Path.{◌≡◌, refl, sym, ◌∙◌, subst}
use mathlib.Core.Logic.{inl, ◌≢◌}
use mathlib.Core.List.{List, []}
use mathlib.Core.Bool.{Bool, true, false}
use mathlib.Core.Option.{Option as Maybe, none}
use native.Mathlib.Omega.{arith}
use lib.ListN.{length, take, get_or, replicate, length-replicate}
use lib.Seq.{drop_at}
use Rattle.std.specs.Prelude.{Option, Some, None}
use Rattle.rows.specs.Limits.{sheet_link_limit}
use Rattle.rows.specs.declared.Sheet as form
use Rattle.placing.specs.Net.{Net}
use Rattle.placing.specs.First.{Answer}
use Rattle.placing.proofs.FirstLaws.{answer-only, first-answer}
use Rattle.network.specs.NetIn.{net_in}
use Rattle.network.specs.Ready.{Ready, AtomsIn, LinksIn, state_in}
use Rattle.network.specs.Begun.{test_after, bounds_after, least_after}
use Rattle.completing.specs.Leaf.{NoneWith, Settling, rest_bounds}
use Rattle.completing.proofs.Completing.{fault-settled}
use Rattle.completing.proofs.SettlingLoop.{settling-done}
use Rattle.completing.proofs.Leaf.{leaf-none, leaf-some, not-completable}
use Rattle.settling.specs.Completed.{completed_in}
use Rattle.std.specs.Prelude.{Ok, Err}
use Rattle.settling.specs.declared.complete.Completed.{Completed}
use Rattle.deciding.specs.Flags.{Different, Opens}
use Rattle.deciding.specs.Agrees.{Agrees}
use Rattle.deciding.specs.Several.{SeveralIn}
use Rattle.deciding.proofs.Flagged.{flagged-in, flagged-out}
use Rattle.settling.specs.Completes.{unsettled, Placed, Several, Working, Completes, Settles, LeastIn}
use Rattle.settling.proofs.States.{taken-in-same}
use Rattle.faults.specs.Finds.{FindsAll}
use Rattle.settling.proofs.Trying.{find-none, find-some, found_none, found-refused}
use Rattle.settling.proofs.SettleLaws.{zeros-bar, settled-already}
use Rattle.settling.proofs.Starting.{size, open-links, state-of, placed}

-- Flags of the links on several rows, among those of all open links.
pub several-of : (figure : form.Sheet) (links : ℕ) (flags tried : List ℕ) → figure.class_count ≡ links → SeveralIn figure links flags tried → Several figure tried (unsettled figure flags)
several-of figure links flags tried e f = record {
  flag-in = λ x h g. flagged-in figure.class_count flags x h ((f x (omega (arith, h, e))).0 g);
  others = λ x m. let t = flagged-out figure.class_count flags (suc x) m in
      let k : suc x ≡ suc t.index = t.number in
      let i : t.index ≡ x = omega (arith, k) in
      (f x (omega (arith, i, t.within, e))).1 (subst (λ (v : ℕ). get_or flags v 0 ≡ 1) i t.flag);
}

pub several-all : (figure : form.Sheet) (flags : List ℕ) → Several figure flags (unsettled figure flags)
several-all figure flags = several-of figure figure.class_count flags flags refl (λ x h. ((λ g. g), λ g. inl g))

module _ (sheet figure : form.Sheet) (ready : Ready sheet figure) (taken to flags tried : List ℕ) (several : Several figure tried (unsettled figure flags))
    (bars : List ℕ) (n : ℕ) (zeros : bars ≡ replicate n 0) (r : Bool) (w : Completes sheet figure taken to tried bars r) where
  working : (atoms : List ℕ) → Placed sheet figure taken to atoms (unsettled figure flags) → Working sheet figure taken to tried atoms (unsettled figure flags)
  working atoms u = record { placed = u; several = several }

  pub least-none : r ≡ false → LeastIn sheet figure taken to flags None
  least-none e atoms u = w.cannot atoms (unsettled figure flags) (working atoms u) (zeros-bar sheet figure to (unsettled figure flags) atoms bars n zeros) e

  -- all links are settled, and there is no fault
  module _ (e : r ≡ true) (links : List ℕ) (s : Settles sheet figure taken to flags tried links) where
    last : (atoms : List ℕ) → Placed sheet figure taken to atoms (unsettled figure flags)
        → Settling (net_in sheet) (net_in figure) (state_in figure atoms to) (unsettled figure flags) (state_in figure atoms links) []
    last atoms u = s.settling atoms (working atoms u) (w.can atoms (unsettled figure flags) (working atoms u) e)

    pub least-some : (given : List ℕ) → FindsAll sheet figure taken links (Ok given) → LeastIn sheet figure taken to flags (Some (record { links_to = links; given = given }))
    least-some given finds atoms u =
        let t = last atoms u in
        let v = finds atoms [] (taken-in-same sheet figure to atoms links taken u.taken_in) t.partial in
        settling-done (net_in sheet) (net_in figure) ready.sheet-normal ready.figure-normal (state_in figure atoms to) (unsettled figure flags) (state_in figure atoms links) t (take sheet.atom_count given) v.1

    -- where there is one, no atoms are placed so
    pub least-faulty : (cut : List ℕ) → FindsAll sheet figure taken links (Err cut) → LeastIn sheet figure taken to flags None
    least-faulty cut finds atoms u =
        let t = last atoms u in
        let v = finds atoms [] (taken-in-same sheet figure to atoms links taken u.taken_in) t.partial in
        absurd (fault-settled (net_in sheet) (net_in figure) ready.sheet-normal ready.figure-normal (state_in figure atoms links) t.partial v.1 t.completable)

-- No link is open: the finder decides.
module _ (sheet figure : form.Sheet) (ready : Ready sheet figure) (taken to flags : List ℕ) (room : length flags ≡ sheet_link_limit) (closed : (x : ℕ) → x < figure.class_count → get_or flags x 0 ≢ 1) where
  pub closed_none : (links : List ℕ) → FindsAll sheet figure taken to (Err links) → LeastIn sheet figure taken to flags None
  closed_none links finds = least-none sheet figure ready taken to flags flags (several-all figure flags) [] 0 refl false
      (found-refused sheet figure ready taken to flags room [] links (find-some sheet figure ready taken to flags room links finds) figure.class_count (omega arith) (λ atoms un w b x h g. absurd (closed x h g))) refl

  pub closed_some : (given : List ℕ) → FindsAll sheet figure taken to (Ok given) → LinksIn sheet figure to → LeastIn sheet figure taken to flags (Some (record { links_to = to; given = given }))
  closed_some given finds l = least-some sheet figure ready taken to flags flags (several-all figure flags) [] 0 refl true (found_none sheet figure ready taken to flags room [] (find-none sheet figure ready taken to flags room given finds)) refl to
      (settled-already sheet figure ready taken to flags flags l closed) given finds

module _ (sheet figure : form.Sheet) (ready : Ready sheet figure) (atoms : List ℕ) (a : AtomsIn sheet figure.atom_count atoms) where
  abbrev S : Net
  S = net_in sheet

  abbrev F : Net
  F = net_in figure

  abbrev l : List ℕ
  l = take figure.atom_count atoms

  -- the answer is what the search for the rest gives
  bounds : bounds_after S F (length l) ≡ rest_bounds S F
  bounds = drop_at (replicate (length F.atoms) (length S.atoms)) (rest_bounds S F) (length l) (length-replicate (length F.atoms) (length S.atoms) ∙ sym (size sheet figure ready atoms a))

  given : (o : Maybe (List ℕ)) → Answer (test_after S F l) (rest_bounds S F) o → o ≡ least_after S F l
  given o b = answer-only (test_after S F l) (bounds_after S F (length l)) o (least_after S F l) (subst (λ (k : List ℕ). Answer (test_after S F l) k o) (sym bounds) b) (first-answer (test_after S F l) (bounds_after S F (length l)))

  -- no good placing has these atoms
  pub complete-none : NoneWith S F l → completed_in sheet figure None ≡ least_after S F l
  complete-none n = given none (leaf-none S F l (size sheet figure ready atoms a) n)

  pub complete-least : (told : List ℕ) → (w : Agrees sheet figure atoms told) → (to flags : List ℕ) → (o : Opens told (sheet.class_count + 1) figure.class_count to flags)
      → (taken : List ℕ) → Different atoms figure.atom_count taken → (r : Option Completed) → LeastIn sheet figure taken to flags r → completed_in sheet figure r ≡ least_after S F l
  complete-least told w to flags o taken d None b = complete-none (not-completable S F l ready.figure-normal (state_in figure atoms to) (unsettled figure flags)
      (state-of sheet figure ready atoms a told w to flags o) (open-links sheet figure ready atoms a told w to flags o) (b atoms (placed sheet figure ready atoms a told w to flags o taken d)))
  complete-least told w to flags o taken d (Some r) b = given _ (leaf-some S F l (size sheet figure ready atoms a) ready.figure-normal (state_in figure atoms to) (unsettled figure flags)
      (state-of sheet figure ready atoms a told w to flags o) (open-links sheet figure ready atoms a told w to flags o) _ (b atoms (placed sheet figure ready atoms a told w to flags o taken d)))
