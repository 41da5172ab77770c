-- A node of the search: its forced figure atoms are placed, and the candidates of the next one are walked.
use Rattle.std.proofs.Common.{◌≡◌, ℕ, ◌+◌, ◌-◌, ◌≤◌, ◌<◌, ◌≢◌, Bool, true, false, List, Option, None, Some, IfSome, take, replicate, get_or, refl, sym, ap, ◌∙◌, subst, inr, arith}
use Rattle.rows.specs.Limits.{sheet_atom_limit}
use Rattle.rows.specs.declared.Sheet.{Sheet as NormalForm}
use Rattle.network.specs.NetIn.{net_in}
use Rattle.network.specs.Ready.{AtomsIn}
use Rattle.candidates.specs.Forced.{FirstFrom}
use Rattle.candidates.specs.Laid.{LaidOut}
use Rattle.candidates.proofs.Marks.{own-marks}
use Rattle.candidates.proofs.Walking.{reached, next_after, next_passed}
use Rattle.lawful.specs.Checks.{Lent}
use Rattle.symmetry.specs.Follows.{Excuses}
use Rattle.matching.specs.Search.{sheet_of, figure_of, Forward, FoundFrom, Kept, Onward, Sent, Stands, found_in, search_from, with_atom}
use Rattle.matching.specs.declared.search.Found.{Found}
use Rattle.matching.specs.declared.state.State.{State}
use Rattle.matching.proofs.Pruning.{sent-kept}
use Rattle.matching.proofs.SearchTurns.{Tries, skip-failed, pre-length, tries-start, tries-end, tries-skip, next-begin, next-atoms, tries-hit, tries-miss}

-- the sheet as it is lent to what excuses candidates
lent : (sheet : NormalForm) (laid : List ℕ) → LaidOut sheet laid sheet.atom_count → Lent sheet laid sheet.atom_count sheet.marked sheet.mark_count sheet.class_count
lent sheet laid o = record { atoms = o; marks = own-marks sheet o.fit o.normal; count = refl }

module _ {state : State} {uses owns kin atoms links laid parts : List ℕ} (stands : Stands state uses owns kin atoms links laid parts)
    {k : ℕ} {placed : List ℕ} (forward : Forward atoms state.sheet.atom_count state.figure.atom_count state.placed state.chosen k placed) where
  abbrev sheet : NormalForm
  sheet = sheet_of state laid

  abbrev figure : NormalForm
  figure = figure_of state parts

  onward : Onward sheet figure atoms links state.placed state.chosen k placed
  onward = forward.onward sheet figure links stands.lends.ready refl refl stands.atoms-in stands.kept.keeps

  -- All figure atoms are placed.
  pub all-placed : k ≡ state.figure.atom_count → AtomsIn sheet state.figure.atom_count placed
  all-placed e = subst (λ (i : ℕ). AtomsIn sheet i placed) e onward.atoms-in

  pub all-found : k ≡ state.figure.atom_count → (r : Found) → found_in sheet figure r ≡ search_from (net_in sheet) (net_in figure) (take state.figure.atom_count placed) → FoundFrom state laid parts r
  all-found e r f = f ∙ ap (λ (i : ℕ). search_from (net_in sheet) (net_in figure) (take i placed)) (sym e) ∙ onward.same

  -- Some are left.
  module _ (some : k ≢ state.figure.atom_count) where
    left : k < state.figure.atom_count
    left = omega (arith, forward.within)

    abbrev Reached : List ℕ → ℕ → ℕ → Type 0
    Reached failed work t = Tries sheet figure (take k placed) failed work t

    module _ (o : Option ℕ) where
      pub walk-begun : FirstFrom (get_or atoms k 0) 0 state.sheet.atom_count o → Reached (replicate sheet_atom_limit 0) 1 (reached state.sheet.atom_count o)
      walk-begun f =
          tries-skip sheet figure stands.lends.ready placed k forward.within onward.atoms-in left _ _ 0
          (tries-start sheet figure stands.lends.ready placed k forward.within onward.atoms-in left _ refl)
          atoms links onward.keeps _ (omega arith) (λ v h q. inr (next_passed _ _ _ o f v h q))

      -- a candidate that was tried
      walk-tried : (failed : List ℕ) (work t : ℕ) → t < state.sheet.atom_count → FirstFrom (get_or atoms k 0) (t + 1) state.sheet.atom_count o → Reached failed work (t + 1) → Reached failed work (reached state.sheet.atom_count o)
      walk-tried failed work t h f u =
          tries-skip sheet figure stands.lends.ready placed k forward.within onward.atoms-in left _ _ (t + 1) u
          atoms links onward.keeps _ (next_after _ _ _ o f (omega arith)) (λ v p q. inr (next_passed _ _ _ o f v p q))

      -- one that is known to fail
      walk-failed : (failed : List ℕ) (work t : ℕ) → t < state.sheet.atom_count → get_or failed t 0 ≡ 1 → FirstFrom (get_or atoms k 0) (t + 1) state.sheet.atom_count o → Reached failed work t → Reached failed work (reached state.sheet.atom_count o)
      walk-failed failed work t h e f u =
          tries-skip sheet figure stands.lends.ready placed k forward.within onward.atoms-in left _ _ t u
          atoms links onward.keeps _ (let q : t + 1 ≤ reached state.sheet.atom_count o = next_after _ _ _ o f (omega arith) in omega arith) (skip-failed atoms failed k t _ e (next_passed _ _ _ o f))

    pub walk-ended : (failed : List ℕ) (work : ℕ) (o : Option ℕ) → o ≡ None → Reached failed work (reached state.sheet.atom_count o) → (r : Found) → r.ok ≡ false → FoundFrom state laid parts r
    walk-ended failed work o e u r q =
        tries-end sheet figure stands.lends.ready placed k forward.within onward.atoms-in left failed work _ (subst (λ (w : Option ℕ). Reached failed work (reached state.sheet.atom_count w)) e u) (omega arith) r q ∙ onward.same

    -- The candidate t, where the walk stands.
    module _ (failed : List ℕ) (work : ℕ) (o : Option ℕ) (t : ℕ) (e : o ≡ Some t) (below : IfSome o (λ v. v < state.sheet.atom_count)) (u : Reached failed work (reached state.sheet.atom_count o)) where
      h : t < state.sheet.atom_count
      h = subst (λ (w : Option ℕ). IfSome w (λ v. v < state.sheet.atom_count)) e below

      at : Reached failed work t
      at = subst (λ (w : Option ℕ). Reached failed work (reached state.sheet.atom_count w)) e u

      pub walk-past : get_or failed t 0 ≡ 1 → (then : Option ℕ) → FirstFrom (get_or atoms k 0) (t + 1) state.sheet.atom_count then → Reached failed work (reached state.sheet.atom_count then)
      walk-past q then f = walk-failed then failed work t h q f at

      module _ (next : State) (lost : Bool) (is : next ≡ with_atom state.sheet state.figure placed k t lost next.asks) where
        pub next-stands : (a l : List ℕ) → Sent sheet figure k t atoms links a l lost → Stands next uses owns kin a l laid parts
        next-stands a l s = subst (λ (w : State). Stands w uses owns kin a l laid parts) (sym is) (record {
          lends = stands.lends;
          within = omega (arith, left);
          atoms-in = next-atoms sheet figure stands.lends.ready placed k forward.within onward.atoms-in left failed work t at h;
          kept = subst (λ (m : List ℕ). Kept sheet figure m a l lost) (sym (next-begin sheet figure stands.lends.ready placed k forward.within onward.atoms-in left failed work t at h))
              (sent-kept sheet figure (take k placed) _ _ (pre-length sheet figure stands.lends.ready placed k forward.within onward.atoms-in) atoms links _ _ lost onward.keeps s);
        })

        pub next-fewer : next.figure.atom_count - next.placed < state.figure.atom_count - state.placed
        next-fewer = omega (arith, left, forward.after, ap (λ (s : State). s.figure.atom_count) is, ap (λ (s : State). s.placed) is)

        module _ (r : Found) (f : FoundFrom next laid parts r) where
          found-next : FoundFrom (with_atom state.sheet state.figure placed k t lost next.asks) laid parts r
          found-next = subst (λ (w : State). FoundFrom w laid parts r) is f

          pub try-hit : r.ok ≡ true → FoundFrom state laid parts r
          try-hit q = tries-hit sheet figure stands.lends.ready placed k forward.within onward.atoms-in left failed work t at h r found-next q ∙ onward.same

          pub try-missed : r.ok ≡ false → (marked : List ℕ) → ((net : NormalForm) → Lent net laid state.sheet.atom_count state.sheet.marked state.sheet.mark_count state.sheet.class_count → Excuses net (take k placed) t failed marked)
              → (spent : ℕ) → 1 ≤ spent → (then : Option ℕ) → FirstFrom (get_or atoms k 0) (t + 1) state.sheet.atom_count then → Reached marked spent (reached state.sheet.atom_count then)
          try-missed q marked x spent w then g =
              walk-tried then marked spent t h g (tries-miss sheet figure stands.lends.ready placed k forward.within onward.atoms-in left failed work t at h r found-next q marked (x sheet (lent sheet laid stands.lends.sheet-laid)) spent w)
