-- The loops that try unsettled links at sheet links.
use Prim.Native.Nat.{ℕ, suc, ◌+◌, ◌≤◌, ◌<◌}
use mathlib.Core.Path.{◌≡◌, refl, sym, subst}
use mathlib.Core.List.{List}
use mathlib.Core.Bool.{Bool, true, false}
use native.Mathlib.Omega.{arith}
use native.Mathlib.Numerals.{add-one}
use lib.ListN.{length, get_or, set}
use Rattle.hyperlmntal.specs.Link.{◌∈◌}
use Rattle.rows.specs.Limits.{sheet_link_limit}
use Rattle.rows.specs.declared.Sheet as form
use Rattle.placing.proofs.FirstLaws.{both_ways}
use Rattle.network.specs.NetIn.{net_in}
use Rattle.network.specs.Ready.{Ready, LinksIn, state_in}
use Rattle.candidates.specs.Laid.{LaidOut}
use Rattle.candidates.specs.PortSets.{ContextsIn}
use Rattle.candidates.specs.Tables.{LinkIn}
use Rattle.candidates.specs.declared.ports.PortSet.{PortSet}
use Rattle.stepping.specs.Chains.{ChainsIn}
use Rattle.stepping.specs.Standing.{Standing, Described, Refuses}
use Rattle.completing.specs.Completion.{remove}
use Rattle.completing.proofs.Completing.{no-fault-completable}
use Rattle.faults.specs.declared.nets.Nets.{Nets}
use Rattle.faults.specs.Finds.{NetsIn, Over, FindsAll}
use Rattle.std.specs.Prelude.{Ok, Err}
use Rattle.deciding.specs.Bars.{BarredTo}
use Rattle.deciding.specs.Kinds.{KindsIn}
use Rattle.deciding.proofs.Sets.{below-cases}
use Rattle.deciding.proofs.Flagged.{flagged-out}
use Rattle.settling.specs.Completes.{unsettled, Tables, Working, CompletableAt, BarsIn, Completes, KeepsBars, CompletesAt, Mends, Unhindered, HinderedAt, FirstFor}
use Rattle.settling.proofs.States.{links-set, of-put, to-put, working-put, put_back, bars-at, barred-at, failed-at, tried-partial, several-in, way_out}

-- what is read of a net, as it stands there
pub nets-of : (sheet figure : form.Sheet) → Ready sheet figure → (laid : List ℕ) → LaidOut sheet laid sheet.atom_count → (sets : List PortSet) → ContextsIn figure sets figure.context_count figure.class_count
    → NetsIn sheet figure (record { atoms = sheet.atom_count; links = sheet.class_count; contexts = sets; rows = figure.context_count; count = figure.class_count }) laid
nets-of sheet figure r laid o sets c = record { ready = r; laid_out = o; sheet-links = refl; contexts-in = c }

-- once the chains are made
pub over-of : {sheet figure : form.Sheet} {nets : Nets} {laid to : List ℕ} (chains : List ℕ) → ((s : form.Sheet) → LaidOut s laid nets.atoms → ChainsIn s chains) → NetsIn sheet figure nets laid → LinksIn sheet figure to
    → Over sheet figure nets laid chains to
over-of {sheet} chains f n l = record { nets-in = n; chains-in = f sheet n.laid_out; links-in = l }

pub tables-of : {sheet figure : form.Sheet} {nets : Nets} {laid chains to : List ℕ} (kinds standing : List ℕ) → ((f : form.Sheet) (links : ℕ) → ContextsIn f nets.contexts nets.rows links → KindsIn f kinds)
    → ((f : form.Sheet) (links : ℕ) → ContextsIn f nets.contexts nets.rows links → Standing f standing) → Over sheet figure nets laid chains to → Tables sheet figure nets laid chains kinds standing to
tables-of {figure = figure} {nets = nets} kinds standing f g o = record { over = o; kinds-in = f figure nets.count o.nets-in.contexts-in; standing-in = g figure nets.count o.nets-in.contexts-in }

-- with the figure links elsewhere
pub tables-links : {sheet figure : form.Sheet} {nets : Nets} {laid chains kinds standing to next : List ℕ} → Tables sheet figure nets laid chains kinds standing to → LinksIn sheet figure next → Tables sheet figure nets laid chains kinds standing next
tables-links t l = record { over = record { nets-in = t.over.nets-in; chains-in = t.over.chains-in; links-in = l }; kinds-in = t.kinds-in; standing-in = t.standing-in }

-- with one link settled
pub tables-put : {sheet figure : form.Sheet} {nets : Nets} {laid chains kinds standing to : List ℕ} → Tables sheet figure nets laid chains kinds standing to → (x y : ℕ) → x < nets.count → y < nets.links → Tables sheet figure nets laid chains kinds standing (set to x (y + 1))
tables-put {sheet} {figure} {to = to} t x y h k = let n = t.over.nets-in in
    tables-links t (links-set sheet figure to t.over.links-in x (y + 1) (omega (arith, n.contexts-in.link-count)) n.ready.figure-fit.class-count (omega arith, omega (arith, n.sheet-links)))

-- what the search over words reads of them
pub described-of : {sheet figure : form.Sheet} {nets : Nets} {laid chains to : List ℕ} (standing : List ℕ) → Over sheet figure nets laid chains to → Standing figure standing
    → Described sheet figure nets.atoms nets.links nets.count chains standing to
described-of standing o s = record {
  ready = o.nets-in.ready;
  sheet-atoms = o.nets-in.laid_out.count;
  sheet-links = o.nets-in.sheet-links;
  figure-links = o.nets-in.contexts-in.link-count;
  chains-in = o.chains-in;
  standing = s;
  links-in = o.links-in;
}

-- What is barred stays so from one table to the next.
module _ (sheet figure : form.Sheet) (taken to flags : List ℕ) where
  -- whatever link was tried
  abbrev pub Keeps : List ℕ → List ℕ → Type 0
  Keeps bars after = (atoms un : List ℕ) → Working sheet figure taken to flags atoms un → BarsIn sheet figure to un atoms bars → BarsIn sheet figure to un atoms after

  -- a link with a flag was
  pub keeps_then : (a b c : List ℕ) (x : ℕ) → x < figure.class_count → get_or flags x 0 ≡ 1 → Keeps a b → KeepsBars sheet figure taken to flags b x c → Keeps a c
  keeps_then a b c x h e f g atoms un w k = g atoms un w (w.several.flag-in x h e) (f atoms un w k)

  pub tried_same : (bars : List ℕ) (x : ℕ) → KeepsBars sheet figure taken to flags bars x bars
  tried_same bars x atoms un w m b = b

  pub tried_then : (a b c : List ℕ) (x : ℕ) → KeepsBars sheet figure taken to flags a x b → KeepsBars sheet figure taken to flags b x c → KeepsBars sheet figure taken to flags a x c
  tried_then a b c x f g atoms un w m k = g atoms un w m (f atoms un w m k)

  -- Link x at every sheet link before y was tried, where P holds of it.
  abbrev pub TriedAt : List ℕ → ℕ → (ℕ → Type 0) → ℕ → Type 0
  TriedAt bars x P y = (atoms un : List ℕ) → Working sheet figure taken to flags atoms un → BarsIn sheet figure to un atoms bars → suc x ∈ un
      → (z : ℕ) → z < y → P z → ¬ CompletableAt sheet figure to un x (suc z) atoms

  -- Every link before x was tried at every link with a flag in `links`.
  abbrev pub TriedTo : List ℕ → List ℕ → ℕ → Type 0
  TriedTo bars links x = (atoms un : List ℕ) → Working sheet figure taken to flags atoms un → BarsIn sheet figure to un atoms bars
      → (z : ℕ) → z < x → get_or flags z 0 ≡ 1 → (y : ℕ) → y < sheet.class_count → get_or links y 0 ≡ 1 → ¬ CompletableAt sheet figure to un z (suc y) atoms

  module _ (bars now : List ℕ) (x : ℕ) (keeps : KeepsBars sheet figure taken to flags bars x now) (P : ℕ → Type 0) (y : ℕ) (t : TriedAt bars x P y) where
    more : ((atoms un : List ℕ) → Working sheet figure taken to flags atoms un → BarsIn sheet figure to un atoms bars → suc x ∈ un → P y → ¬ CompletableAt sheet figure to un x (suc y) atoms) → TriedAt bars x P (y + 1)
    more n atoms un w b m z h = below-cases (λ (i : ℕ). P i → ¬ CompletableAt sheet figure to un x (suc i) atoms) y z (omega (arith, add-one y)) (λ k. t atoms un w b m z k) (n atoms un w b m)

    pub tried-next : (r : Bool) → r ≡ false → CompletesAt sheet figure taken to flags now x y r → TriedAt bars x P (y + 1)
    tried-next r e c = more (λ atoms un w b m p. c.cannot atoms un w (keeps atoms un w m b) m e)

    pub tried-skip : ¬ P y → TriedAt bars x P (y + 1)
    tried-skip n = more (λ atoms un w b m p. absurd (n p))

  module _ (bars now : List ℕ) (keeps : Keeps bars now) (links : List ℕ) (x : ℕ) (t : TriedTo bars links x) where
    one_more : ((atoms un : List ℕ) → Working sheet figure taken to flags atoms un → BarsIn sheet figure to un atoms bars → get_or flags x 0 ≡ 1 → (y : ℕ) → y < sheet.class_count → get_or links y 0 ≡ 1 → ¬ CompletableAt sheet figure to un x (suc y) atoms)
        → TriedTo bars links (x + 1)
    one_more n atoms un w b z h = below-cases (λ (i : ℕ). get_or flags i 0 ≡ 1 → (y : ℕ) → y < sheet.class_count → get_or links y 0 ≡ 1 → ¬ CompletableAt sheet figure to un i (suc y) atoms) x z
        (omega (arith, add-one x)) (λ k. t atoms un w b z k) (n atoms un w b)

    -- no sheet link will do for x
    pub link-refused : x < figure.class_count → (r : Bool) → r ≡ false → Mends sheet figure taken to flags now links x r → TriedTo bars links (x + 1)
    link-refused h r e c = one_more (λ atoms un w b f. c.cannot atoms un w (keeps atoms un w b) (w.several.flag-in x h f) e)

    pub link-settled : ¬ (get_or flags x 0 ≡ 1) → TriedTo bars links (x + 1)
    link-settled n = one_more (λ atoms un w b f. absurd (n f))

module _ (sheet figure : form.Sheet) (ready : Ready sheet figure) (taken to flags : List ℕ) (room : length flags ≡ sheet_link_limit) where
  module _ (bars : List ℕ) (x : ℕ) (h : x < figure.class_count) where
    module _ (y : ℕ) (k : y < sheet.class_count) where
      -- x is barred there
      pub at-barred : LinkIn bars x y → CompletesAt sheet figure taken to flags bars x y false
      at-barred i = record {
        can = λ atoms un w m e. both_ways e refl;
        cannot = λ atoms un w b m e. barred-at sheet figure ready taken to flags atoms un room w x h m bars b y k i;
      }

      module _ (r : Bool) (c : Completes sheet figure taken (set to x (y + 1)) (set flags x 0) bars r) where
        put-working : (atoms un : List ℕ) → Working sheet figure taken to flags atoms un → suc x ∈ un → Working sheet figure taken (set to x (y + 1)) (set flags x 0) atoms (remove (suc x) un)
        put-working atoms un w m = working-put sheet figure ready taken to flags atoms un room w x h m (y + 1) (omega arith, omega (arith, k))

        as-suc : (atoms un : List ℕ) → CompletableAt sheet figure to un x (y + 1) atoms → CompletableAt sheet figure to un x (suc y) atoms
        as-suc atoms un d = subst (λ (n : ℕ). CompletableAt sheet figure to un x n atoms) (add-one y) d

        as-sum : (atoms un : List ℕ) → CompletableAt sheet figure to un x (suc y) atoms → CompletableAt sheet figure to un x (y + 1) atoms
        as-sum atoms un d = subst (λ (n : ℕ). CompletableAt sheet figure to un x n atoms) (sym (add-one y)) d

        pub at-can : r ≡ true → CompletesAt sheet figure taken to flags bars x y true
        at-can e = record {
          can = λ atoms un w m f. as-suc atoms un (to-put sheet figure ready taken to flags atoms un room w x h m (y + 1) (c.can atoms (remove (suc x) un) (put-working atoms un w m) e));
          cannot = λ atoms un w b m f. both_ways refl f;
        }

        fails : r ≡ false → (atoms un : List ℕ) → Working sheet figure taken to flags atoms un → BarsIn sheet figure to un atoms bars → suc x ∈ un → ¬ CompletableAt sheet figure to un x (suc y) atoms
        fails e atoms un w b m d = c.cannot atoms (remove (suc x) un) (put-working atoms un w m) (bars-at sheet figure ready taken to flags atoms un room w x h m bars b (y + 1)) e
            (of-put sheet figure ready taken to flags atoms un room w x h m (y + 1) (as-sum atoms un d))

        pub at-cannot : r ≡ false → CompletesAt sheet figure taken to flags bars x y false
        at-cannot e = record { can = λ atoms un w m f. both_ways f refl; cannot = λ atoms un w b m f. fails e atoms un w b m }

        -- and is barred to its kind from there on
        pub at-barring : r ≡ false → (kinds : List ℕ) → KindsIn figure kinds → (after : List ℕ) → BarredTo kinds x y bars after → KeepsBars sheet figure taken to flags bars x after
        at-barring e kinds n after f atoms un w m b = failed-at sheet figure ready taken to flags atoms un room w x h m bars b y k (fails e atoms un w b m) kinds n after f

    -- some sheet link will do
    pub mends-found : (links now : List ℕ) → (y : ℕ) → y < sheet.class_count → (r : Bool) → r ≡ true → CompletesAt sheet figure taken to flags now x y r → Mends sheet figure taken to flags bars links x true
    mends-found links now y k r e c = record {
      can = λ atoms un w m f. put_back sheet figure ready taken to flags atoms un room w x h m (suc y) (c.can atoms un w m e);
      cannot = λ atoms un w b m f. both_ways refl f;
    }

    -- none will
    pub mends-none : (links : List ℕ) (y : ℕ) → sheet.class_count ≤ y → TriedAt sheet figure taken to flags bars x (λ z. get_or links z 0 ≡ 1) y → Mends sheet figure taken to flags bars links x false
    mends-none links y k t = record { can = λ atoms un w m f. both_ways f refl; cannot = λ atoms un w b m f z l g. t atoms un w b m z (omega (arith, k, l)) g }

    -- the first that will
    pub first_found : (now : List ℕ) (y : ℕ) → y < sheet.class_count → TriedAt sheet figure taken to flags bars x (λ z. Unit {0}) y → (r : Bool) → r ≡ true → CompletesAt sheet figure taken to flags now x y r
        → FirstFor sheet figure taken to flags bars x (y + 1)
    first_found now y k t r e c = record {
      within = (omega arith, omega (arith, k));
      refused = λ atoms un w b m z l. t atoms un w b m z (omega (arith, l)) tt;
      found = λ atoms un w m l. subst (λ (n : ℕ). CompletableAt sheet figure to un x n atoms) (sym (add-one y)) (c.can atoms un w m e);
    }

    pub first-none : (y : ℕ) → y ≡ sheet.class_count → TriedAt sheet figure taken to flags bars x (λ z. Unit {0}) y → FirstFor sheet figure taken to flags bars x (y + 1)
    first-none y e t = record {
      within = (omega arith, omega (arith, e));
      refused = λ atoms un w b m z l. t atoms un w b m z (omega (arith, l)) tt;
      found = λ atoms un w m l. absurd (omega (arith, l, e));
    }

  -- What stands in the way.
  pub find-none : (given : List ℕ) → FindsAll sheet figure taken to (Ok given) → Unhindered sheet figure taken to flags
  find-none given finds atoms un w = no-fault-completable (net_in sheet) (net_in figure) ready.sheet-normal ready.figure-normal (state_in figure atoms to) un w.placed.partial
      (finds atoms un w.placed.taken_in w.placed.partial).0

  pub find-some : (links : List ℕ) → FindsAll sheet figure taken to (Err links) → HinderedAt sheet figure taken to flags links
  find-some links finds atoms un w = let t = finds atoms un w.placed.taken_in w.placed.partial in
      way_out sheet figure ready taken to flags atoms un room w t.1 links t.2

  -- the links that are flagged have a flag
  flag-of : (x : ℕ) → suc x ∈ unsettled figure flags → get_or flags x 0 ≡ 1
  flag-of x m = let t = flagged-out figure.class_count flags (suc x) m in
      let e : t.index ≡ x = (let k : suc x ≡ suc t.index = t.number in omega arith) in
      subst (λ (i : ℕ). get_or flags i 0 ≡ 1) e t.flag

  -- where no completion is left, nothing can mend it
  pub refused-hinders : (b : Bool) → b ≡ true → Refuses sheet figure taken to flags b → (links : List ℕ) → HinderedAt sheet figure taken to flags links
  refused-hinders b e f links atoms un w c = absurd (f e atoms (unsettled figure flags) w.placed.taken_in (tried-partial sheet figure ready taken to flags atoms un room w) flag-of
      (several-in sheet figure ready taken to flags atoms un room w c))

  module _ (bars : List ℕ) where
    pub found_none : Unhindered sheet figure taken to flags → Completes sheet figure taken to flags bars true
    found_none free = record { can = λ atoms un w g. free atoms un w; cannot = λ atoms un w b g. both_ways refl g }

    pub found-tried : (links now : List ℕ) (x : ℕ) → x < figure.class_count → get_or flags x 0 ≡ 1 → Mends sheet figure taken to flags now links x true → Completes sheet figure taken to flags bars true
    found-tried links now x h f m = record { can = λ atoms un w g. m.can atoms un w (w.several.flag-in x h f) refl; cannot = λ atoms un w b g. both_ways refl g }

    pub found-refused : (links : List ℕ) → HinderedAt sheet figure taken to flags links → (x : ℕ) → figure.class_count ≤ x → TriedTo sheet figure taken to flags bars links x → Completes sheet figure taken to flags bars false
    found-refused links held x k t = record {
      can = λ atoms un w g. both_ways g refl;
      cannot = λ atoms un w b g c. let o = held atoms un w c in t atoms un w b o.link (omega (arith, o.link-in, k)) o.flag o.at o.at_in o.at_flag o.completes;
    }
