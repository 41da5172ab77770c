-- What is found, over the nets.
use Prim.Native.Nat.{ℕ, suc, ◌+◌, ◌-◌, ◌≤◌, ◌<◌}
use mathlib.Core.Path.{◌≡◌, sym, ◌∙◌, ap, subst}
use mathlib.Core.Logic.{◌↔◌, ◌≢◌}
use mathlib.Core.List.Memᴰ
use mathlib.Core.List.{List, [], ◌∷◌}
use native.Mathlib.Omega.{arith}
use lib.ListN.{length, take, get_or, set, replicate}
use lib.Seq.{get_or-take, get_or-set_same, length-take-le}
use Rattle.rows.specs.Limits.{sheet_link_limit}
use Rattle.rows.specs.declared.Sheet as form
use Rattle.placing.specs.Net.{Net, Range}
use Rattle.placing.specs.Placing.{Placing, number_at}
use Rattle.network.specs.NetIn.{net_in}
use Rattle.network.specs.Ready.{Ready, TakenIn, state_in}
use Rattle.network.proofs.NetIn.{atoms-length, contexts-length}
use Rattle.candidates.specs.Laid.{Rowed}
use Rattle.candidates.specs.PortSets.{ContextsIn}
use Rattle.candidates.proofs.Laying.{laid-rowed}
use Rattle.completing.specs.Completion.{Partial}
use Rattle.completing.specs.Fault as faults
use Rattle.std.specs.Prelude.{Result, Ok, Err}
use Rattle.stepping.specs.Flags.{Within, SentTo, PortOfNumber}
use Rattle.stepping.specs.Chains.{node_of, Falls, Chained}
use Rattle.stepping.specs.Contexts.{number_of}
use Rattle.stepping.specs.Labels.{MeetTied, MeetApart}
use Rattle.faults.specs.Grows.{Tables}
use Rattle.faults.specs.Gives.{GivesAt, TakenFlags, HeldIn}
use Rattle.faults.specs.declared.nets.Nets.{Nets}
use Rattle.faults.specs.Finds.{Over, FindsSome, Finds}
use Rattle.stepping.proofs.Reading.{cell-number, used-read, port-read}
use Rattle.stepping.proofs.Chaining.{laid_in}
use Rattle.stepping.proofs.Linking.{all-linked, two-apart}

module _ {sheet figure : form.Sheet} {nets : Nets} {laid chains to : List ℕ} (over : Over sheet figure nets laid chains to) where
  abbrev S : Net
  S = net_in sheet

  abbrev F : Net
  F = net_in figure

  abbrev ready : Ready sheet figure
  ready = over.nets-in.ready

  abbrev none : ℕ
  none = nets.links + 1

  last : none ≡ S.links + 1
  last = ap (λ (n : ℕ). n + 1) (sym over.nets-in.sheet-links)

  abbrev of-figure : ContextsIn figure nets.contexts nets.rows nets.count
  of-figure = over.nets-in.contexts-in

  pub to-within : Within none nets.count to
  to-within x h = let r = over.links-in.within x (omega (arith, h, of-figure.link-count)) in (r.0, omega (arith, r.1, over.nets-in.sheet-links))

  pub none-room : none ≤ sheet_link_limit + 1
  none-room = omega (arith, ready.sheet-fit.class-count, over.nets-in.sheet-links)

  pub links-few : nets.links ≤ sheet_link_limit
  links-few = omega (arith, ready.sheet-fit.class-count, over.nets-in.sheet-links)

  pub rowed : Rowed laid nets.atoms
  rowed = laid-rowed sheet laid nets.atoms over.nets-in.laid_out

  chained : Chained S (node_of nets.atoms 0) chains
  chained = subst (λ (n : ℕ). Chained S (node_of n 0) chains) over.nets-in.laid_out.count over.chains-in

  pub falls : Falls (node_of nets.atoms 0) chains
  falls = chained.nodes

  pub held_in : HeldIn S F laid nets.atoms nets.links (number_of nets.contexts) nets.rows
  held_in = record {
    link-count = over.nets-in.sheet-links;
    atom-rows = laid_in sheet laid nets.atoms over.nets-in.laid_out;
    choice-count = contexts-length figure ready.figure-fit ∙ of-figure.row_count;
    choice-number = cell-number of-figure;
  }

  pub apart-room : (y : ℕ) → MeetApart nets.contexts nets.rows nets.count to none y → y < sheet_link_limit
  apart-room y t =
      let r = to-within t.0 t.2.first-in in
      let e : get_or to t.0 0 ≡ suc y = t.2.first-at in
      let m : suc y ≢ none = t.2.not_none in
      let h = none-room in
      omega (arith, r.0, r.1)

  module _ (atoms un : List ℕ) where
    abbrev q : Placing
    q = state_in figure atoms to

    pub apart-found : (y : ℕ) → MeetApart nets.contexts nets.rows nets.count to none y → FindsSome sheet figure q (set (replicate sheet_link_limit 0) y 1)
    apart-found y t = (
      suc y ∷ [],
      faults.apart (suc y) (two-apart S of-figure atoms to none last to-within y t),
      λ z m.
          let i : z ≡ suc y = Memᴰ.eq_of_singleton m in
          let e : z - 1 ≡ y = omega arith in
          subst (λ (i : ℕ). ◌≡◌ {A = ℕ} (get_or (set (replicate sheet_link_limit 0) y 1) i 0) 1) (sym e) (get_or-set_same (replicate sheet_link_limit 0) y 1 0 (apart-room y t)),
    )

    pub tables-in : (used ports : List ℕ) → Partial S F q un
        → ((y : ℕ) → (get_or used y 0 ≡ 1) ↔ ((x : ℕ) × (x < nets.count) × SentTo to none x y))
        → ((p : ℕ) → (get_or ports p 0 ≡ 1) ↔ ((c : ℕ) × (c < nets.rows) × PortOfNumber nets.contexts nets.rows to none c p))
        → Tables S F q chains used ports nets.atoms nets.rows
    tables-in used ports p u v = record {
      around = record {
        sheet-normal = ready.sheet-normal;
        normal = ready.figure-normal;
        across = p.across;
        atom-count = atoms-length sheet ready.sheet-fit ∙ over.nets-in.laid_out.count;
        narrow = λ j h. let w = (held_in.atom-rows j h).width in let k = (rowed.atoms j h).few in omega arith;
      };
      chained = chained;
      used-flag = λ y h. used-read figure ready.figure-fit S atoms to none y (omega (arith, over.nets-in.sheet-links)) used (subst (λ (n : ℕ). (z : ℕ) → (get_or used z 0 ≡ 1) ↔ ((x : ℕ) × (x < n) × SentTo to none x z)) (sym of-figure.link-count) u);
      port-flag = λ c y i h. port-read of-figure S atoms to none c y i (omega (arith, over.nets-in.sheet-links)) none-room to-within ports v;
    }

    pub taken-flags : (taken : List ℕ) → TakenIn sheet figure q taken → TakenFlags S F q nets.atoms taken
    taken-flags taken t j h = let w = t.flags (suc j) (omega arith, omega (arith, over.nets-in.laid_out.count)) in
        let e : suc j - 1 ≡ j = omega arith in
        ((λ i. w.0 (ap (λ (n : ℕ). get_or taken n 0) e ∙ i)), (λ k. ap (λ (n : ℕ). get_or taken n 0) (sym e) ∙ w.1 k))

    pub served-found : (r : Result (List ℕ) (List ℕ)) → MeetTied nets.contexts nets.rows nets.count to none → GivesAt S F q r → Finds sheet figure q r
    served-found (Err links) w k = (k.1, faults.cut_off k.0 k.1 k.2, k.3)
    served-found (Ok given) w g = (
      record { linked = all-linked S of-figure atoms to none last to-within w; served = λ j o. let l = g.least j o in (number_at given j, l.number, l.allowed) },
      record {
        atoms-given = length-take-le sheet.atom_count given (let h = ready.sheet-fit.atom-count in let room = g.room in omega arith) ∙ sym (atoms-length sheet ready.sheet-fit);
        not-given = λ j o t. same j o ∙ g.not-given j o t;
        least-given = λ j o. subst (faults.LeastContext S F q j) (sym (same j o.0)) (g.least j o);
      },
    )
      where
        same : (j : ℕ) → Range (length S.atoms) j → number_at (take sheet.atom_count given) j ≡ number_at given j
        same j o = get_or-take sheet.atom_count given (j - 1) 0 (let a : 1 ≤ j = o.0 in let b : j ≤ length S.atoms = o.1 in let e = atoms-length sheet ready.sheet-fit in omega arith)
