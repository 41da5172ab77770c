-- A fault needs an unsettled link: each completion sends one to a link of the fault's list.
use Prim.Native.Nat.{ℕ, ◌≤◌}
use mathlib.Core.Path.{◌≡◌, refl, sym, ◌∙◌, subst}
use mathlib.Core.Logic.{◌⊎◌, inl, inr}
use mathlib.Core.List.Memᴰ
use mathlib.Core.List.{List}
use native.Mathlib.Decide.{ℕ_discrete}
use native.Mathlib.Omega.{arith}
use Rattle.hyperlmntal.specs.Link.{◌∈◌}
use Rattle.hyperlmntal.proofs.TellApart.{some-dec}
use Rattle.placing.specs.Net.{NetCell, Net, Range, Normal}
use Rattle.placing.specs.Placing.{Placing, cell_at, link_target, given_to, Taken, At, PortAt, Inside}
use Rattle.placing.proofs.Standing.{context-link, place-link}
use Rattle.completing.specs.Completion.{Partial, Completion}
use Rattle.network.specs.Reach.{Reach, stay, move}
use Rattle.completing.specs.Fault.{Used, Other, Beside, TwoApart, Through, CutOff, Fault, apart, cut_off}
use Rattle.completing.proofs.Decide.{member-dec}
use Rattle.completing.proofs.Kept.{linked-map, taken-same}

through-other : (S F : Net) (q : Placing) (set seen : List ℕ) (i j : ℕ) → Other S F q i → Reach (Through S F q set seen) i j → Other S F q j
through-other S F q set seen i j h stay = h
through-other S F q set seen i j h (move {y = k} t r) = through-other S F q set seen k j t.beside.second-other r

module _ (S F : Net) (NS : Normal S) (NF : Normal F) (q : Placing) (un : List ℕ) (a : Partial S F q un) (p : Placing) (c : Completion S F q un p) where
  -- a figure link that q sends to a sheet link is settled
  kept : (x y : ℕ) → Range F.links x → link_target q x ≡ y → y ≤ S.links → link_target p x ≡ y
  kept x y m e h = c.settled x m (λ u. let k = a.read_none x u in absurd (omega arith)) ∙ e

  at-kept : (x y : ℕ) → At S F q x y → At S F p x y
  at-kept x y h = record { figure-link = h.figure-link; sheet-link = h.sheet-link; there = kept x y h.figure-link h.there h.sheet-link.1 }

  pub two-apart-needs : (y : ℕ) → TwoApart S F q y → (x : ℕ) × (x ∈ un) × (link_target p x ≡ y)
  two-apart-needs y f = go (some-dec (λ x. link_target p x ≡ y) (λ x. ℕ_discrete (link_target p x) y) un)
    where
      go : Dec ((x : ℕ) × (x ∈ un) × (link_target p x ≡ y)) → (x : ℕ) × (x ∈ un) × (link_target p x ≡ y)
      go (yes s) = s
      go (no n) = absurd (f.not-linked (linked-map S F p q y y (λ x. x) (λ row r x m. m) from
          (c.good.linked f.one f.two y (at-kept f.one y f.one_at) (at-kept f.two y f.two_at))))
        where
          from : (x : ℕ) → At S F p x y → At S F q x y
          from x h = record {
            figure-link = h.figure-link;
            sheet-link = h.sheet-link;
            there = sym (c.settled x h.figure-link (λ u. n (x, u, h.there))) ∙ h.there;
          }

  pub cut-off-needs : (set seen : List ℕ) → CutOff S F q set seen → (x : ℕ) × (x ∈ un) × (link_target p x ∈ seen)
  cut-off-needs set seen f = go (some-dec (λ x. link_target p x ∈ seen) (λ x. member-dec (link_target p x) seen) un)
    where
      other : (j : ℕ) → ¬ Taken S F q j → ¬ Taken S F p j
      other j h t = h (taken-same S F p q c.same-atoms j t)

      home : (row : NetCell) × (row ∈ F.contexts) × (row.0 ≡ given_to p f.root)
      home = c.good.sending.to-contexts f.root f.root-other.0 (other f.root f.root-other.1)

      go : Dec ((x : ℕ) × (x ∈ un) × (link_target p x ∈ seen)) → (x : ℕ) × (x ∈ un) × (link_target p x ∈ seen)
      go (yes s) = s
      go (no n) = absurd (f.no-context home.0 home.1 serves)
        where
          -- a figure link that p sends to a link looked at, q sends there
          back : (x y : ℕ) → Range F.links x → link_target p x ≡ y → y ∈ seen → link_target q x ≡ y
          back x y m e s = sym (c.settled x m (λ u. n (x, u, Memᴰ.cast e s))) ∙ e

          one-step : (j j' : ℕ) → Through S F q set seen j j' → given_to p j' ≡ given_to p j
          one-step j j' t = at (c.good.own-links j b.first-other.0 (other j b.first-other.1) b.link b.first)
            where
              b : Beside S F q j j'
              b = t.beside

              at : PortAt S F p (given_to p j) b.link ⊎ Inside S F p (given_to p j) b.link → given_to p j' ≡ given_to p j
              at (inl r) = let m = context-link F NF r.row r.link r.of-figure r.port in
                  absurd (b.unused (r.link, m, back r.link b.link m r.there t.over))
              at (inr r) = (r.only-there j' b.second-other.0 b.second).1

          same : (i j : ℕ) → Reach (Through S F q set seen) i j → given_to p j ≡ given_to p i
          same i j stay = refl
          same i j (move {y = k} t r) = same k j r ∙ one-step i k t

          serves : (y : ℕ) → y ∈ seen → Used S F q y → PortAt S F q home.0.0 y
          serves y s u = at-atom (f.touched y s)
            where
              at-atom : (j : ℕ) × (j ∈ set) × (y ∈ (cell_at S.atoms j).1) → PortAt S F q home.0.0 y
              at-atom (j, m, k) = port (c.good.own-links j st.0 (other j st.1) y k)
                where
                  st : Other S F q j
                  st = through-other S F q set seen f.root j f.root-other (f.connected j m)

                  port : PortAt S F p (given_to p j) y ⊎ Inside S F p (given_to p j) y → PortAt S F q home.0.0 y
                  port (inl r) = record {
                    row = r.row;
                    of-figure = r.of-figure;
                    number = r.number ∙ (same f.root j (f.connected j m) ∙ sym home.2);
                    link = r.link;
                    port = r.port;
                    there = back r.link y (context-link F NF r.row r.link r.of-figure r.port) r.there s;
                  }
                  port (inr r) = absurd (r.no-figure-link u.0 u.1 (kept u.0 y u.1 u.2 (place-link S NS j y st.0 k).1))

  -- Some unsettled link goes to a link of the fault's list.
  pub fault-needs : {v : List ℕ} → Fault S F q v → (x : ℕ) × (x ∈ un) × (link_target p x ∈ v)
  fault-needs (apart y f) = let t = two-apart-needs y f in (t.0, t.1, Memᴰ.head t.2)
  fault-needs (cut_off set seen f) = cut-off-needs set seen f

-- The links of the list are sheet links.
pub fault-links : (S F : Net) → Normal S → (q : Placing) {v : List ℕ} → Fault S F q v → (y : ℕ) → y ∈ v → Range S.links y
fault-links S F NS q (apart z f) y m = subst (Range S.links) (sym (Memᴰ.eq_of_singleton m)) f.one_at.sheet-link
fault-links S F NS q (cut_off set seen f) y m =
    let t = f.touched y m in
    place-link S NS t.0 y (through-other S F q set seen f.root t.0 f.root-other (f.connected t.0 t.1)).0 t.2
