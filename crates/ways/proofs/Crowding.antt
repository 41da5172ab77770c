-- The good placings that stay in the sets of a search node agree with the tables made from them.
use Rattle.std.proofs.Common.{◌≡◌, ℕ, suc, ◌-◌, ◌<◌, ◌≤◌, Bool, true, false, ◌≢◌, ◌⊎◌, List, [], length, get_or, sym, ap, ◌∙◌, subst, inl, inr, arith, eq-eqb, ne_eqb}
use Rattle.hyperlmntal.specs.Link.{◌∈◌}
use Rattle.rows.specs.Limits.{sheet_link_limit}
use Rattle.rows.specs.declared.Sheet.{Sheet as NormalForm}
use Rattle.placing.specs.Net.{Range}
use Rattle.placing.specs.Placing.{Placing, atom_target, link_target, Taken, Good}
use Rattle.placing.proofs.Standing.{place-link}
use Rattle.network.specs.NetIn.{net_in}
use Rattle.network.proofs.NetIn.{atoms-length, mark-in}
use Rattle.candidates.specs.Sets.{Decided, by-atom, by-mark, Obeys}
use Rattle.candidates.specs.Tables.{AtomIn, LinkIn, MayAtom, MayLink}
use Rattle.candidates.specs.Words.{In}
use Rattle.candidates.proofs.GoodPlaces.{decided-real}
use Rattle.completing.specs.Known.{Stands, Touches}
use Rattle.completing.specs.Ways.{OnHalf, OnBoth, OnOneHalf}
use Rattle.stepping.specs.Standing.{digit_of, Described}
use Rattle.ways.specs.Halves.{on_first, half_of}
use Rattle.ways.specs.Agrees.{Among, Agrees, NoneAgrees}
use Rattle.ways.specs.Nodes.{NodeOf, NoneStays, OnRow, OnMark, OnlyLink, Tells, GuardsLinksTo, RowOnHalf, Guarded, Guards, GuardsTo, Shut}
use Rattle.ways.proofs.Words.{half-one, half-two}
use Rattle.ways.proofs.Steps.{row-touches, touches-row}
use Rattle.ways.proofs.Refusing.{both-half}

module _ (sheet figure : NormalForm) (atoms links count : ℕ) (laid chains : List ℕ) (rows : ℕ) (parts words marked : List ℕ) (marks : ℕ) (node : NodeOf sheet figure atoms links count laid chains rows parts words marked marks) where
  count_small : count ≤ sheet_link_limit
  count_small = let h = node.ready.figure-fit.class-count in let e = node.figure-links in omega arith

  pub node-described : (sets to flags opens : List ℕ) → Tells parts rows marked marks sets (suc links) to flags opens → Described sheet figure atoms links count chains words to
  node-described sets to flags opens t = record {
    ready = node.ready;
    sheet-atoms = node.sheet-out.count;
    sheet-links = node.sheet-links;
    figure-links = node.figure-links;
    chains-in = node.chains-in;
    standing = node.standing;
    links-in = record { room = t.room; within = λ x h. subst (λ (n : ℕ). Range (suc n) (get_or to x 0)) (sym node.sheet-links) (t.within x (let s = count_small in let e = node.figure-links in omega arith)) };
  }

  row-atom : (i : ℕ) → i < rows → Range (length (net_in figure).atoms) (suc i)
  row-atom i h = let e = atoms-length figure node.ready.figure-fit in let d = node.figure-out.count in (omega arith, omega arith)

  -- A link with a digit of a half stands on a context of it.
  module _ (side x : ℕ) (range : Range figure.class_count x) where
    stands_at_lem : (t : ℕ) → In (get_or words (x - 1) 0) t → (k : ℕ) × Stands (net_in figure) x k × (t ≡ digit_of k)
    stands_at_lem t i =
        let up : suc (x - 1) ≡ x = omega (arith, range.0) in
        subst (λ (y : ℕ). (k : ℕ) × Stands (net_in figure) y k × (t ≡ digit_of k)) up (node.standing.only (x - 1) (omega (arith, range.0, range.1)) t i)

    on-first : In (half_of (get_or words (x - 1) 0) side) 0 → OnHalf (net_in figure) (on_first side) true x
    on-first i =
        let t = half-one (get_or words (x - 1) 0) side i in
        let k = stands_at_lem t.0 t.1 in
        (k.0, k.1, eq-eqb _ 1 (subst (In side) k.2 t.2))

    on-second : In (half_of (get_or words (x - 1) 0) side) 1 → OnHalf (net_in figure) (on_first side) false x
    on-second i =
        let t = half-two (get_or words (x - 1) 0) side i in
        let k = stands_at_lem t.0 t.1 in
        (k.0, k.1, ne_eqb _ 1 (λ e. t.2 (subst (In side) (sym k.2) e)))

  -- All links of a row, by their places.
  row-links : (side h i : ℕ) → i < rows → RowOnHalf parts words side i h → (x : ℕ) → Touches (net_in figure) (suc i) x → Range figure.class_count x × In (half_of (get_or words (x - 1) 0) side) h
  row-links side h i l on x m =
      let t = touches-row figure parts rows node.figure-out i l x m in
      (place-link (net_in figure) node.ready.figure-normal (suc i) x (row-atom i l) m, subst (λ (y : ℕ). In (half_of (get_or words (y - 1) 0) side) h) t.2 (on t.0 t.1))

  row-half : (side i : ℕ) → i < rows → RowOnHalf parts words side i 0 ⊎ RowOnHalf parts words side i 1 → OnOneHalf (net_in figure) (on_first side) (suc i)
  row-half side i l (inl on) = inl (λ x m. let r = row-links side 0 i l on x m in on-first side x r.0 r.1)
  row-half side i l (inr on) = inr (λ x m. let r = row-links side 1 i l on x m in on-second side x r.0 r.1)

  module _ (places sets : List ℕ) (p : Placing) (good : Good (net_in sheet) (net_in figure) p) (stays : Obeys (net_in sheet) (net_in figure) (MayAtom places) (MayLink sets) p) where
    by : (x : ℕ) → OnRow parts rows x ⊎ OnMark marked marks x → Decided (net_in figure) (suc x)
    by x (inl (i, k, h, l, e)) = by-atom (suc i) (row-atom i h) (subst (Touches (net_in figure) (suc i)) e (row-touches figure parts rows node.figure-out i h k l))
    by x (inr (q, h, e)) = by-mark (get_or figure.marks q 0) (subst (λ (z : ℕ). (z, get_or figure.marks q 0) ∈ (net_in figure).marks) (ap (λ (l : List ℕ). get_or l q 0) node.figure-marked ∙ e) (mark-in figure node.ready.figure-fit q (let d = node.figure-marks in omega arith)))

    -- A link of a row, or with a mark, goes to a link of its set.
    in-set : (x : ℕ) → OnRow parts rows x ⊎ OnMark marked marks x → LinkIn sets x (link_target p (suc x) - 1)
    in-set x on = subst (λ (z : ℕ). LinkIn sets z (link_target p (suc x) - 1)) (let d : suc x - 1 ≡ x = omega arith in d) (stays.links (suc x) (by x on))

    -- One that has one place goes there.
    goes-only : (x y : ℕ) → OnRow parts rows x ⊎ OnMark marked marks x → OnlyLink sets x y → link_target p (suc x) ≡ y
    goes-only x y on only = up ∙ only (link_target p (suc x) - 1) (let s = node.ready.sheet-fit.class-count in omega (arith, real.0, real.1)) (in-set x on)
      where
        real : Range sheet.class_count (link_target p (suc x))
        real = decided-real (net_in sheet) (net_in figure) node.ready.sheet-normal node.ready.figure-normal p good (suc x) (by x on)

        up : link_target p (suc x) ≡ suc (link_target p (suc x) - 1)
        up = omega (arith, real.0)

    module _ (to flags opens : List ℕ) (t : Tells parts rows marked marks sets (suc links) to flags opens) (taken guarded : List ℕ) (side r : ℕ) (g : GuardsTo parts words places atoms side rows taken r)
        (k : GuardsLinksTo sets opens words flags side count guarded) where
      goes : (x : ℕ) → x < figure.class_count → (get_or flags x 0 ≢ 1) ⊎ (get_or to x 0 ≢ suc sheet.class_count) → link_target p (suc x) ≡ get_or to x 0
      goes x h w = go (t.told x (let s = count_small in let e = node.figure-links in omega arith)) w
        where
          go : ((get_or to x 0 ≡ suc links) × (get_or flags x 0 ≡ 1)) ⊎ ((OnRow parts rows x ⊎ OnMark marked marks x) × OnlyLink sets x (get_or to x 0)) → (get_or flags x 0 ≢ 1) ⊎ (get_or to x 0 ≢ suc sheet.class_count) → link_target p (suc x) ≡ get_or to x 0
          go (inl u) (inl n) = absurd (n u.1)
          go (inl u) (inr n) = absurd (n (u.0 ∙ ap suc (sym node.sheet-links)))
          go (inr u) v = goes-only x (get_or to x 0) u.0 u.1

      -- Where a link goes that has a flag and stands on both halves is guarded.
      held : (x : ℕ) → x < figure.class_count → get_or flags x 0 ≡ 1 → OnBoth (net_in figure) (on_first side) (suc x) → Range sheet.class_count (link_target p (suc x)) → Among guarded (link_target p (suc x))
      held x h f o l = (
        link_target p (suc x) - 1,
        omega (arith, l.0),
        k x (let e = node.figure-links in omega arith) f both (link_target p (suc x) - 1) (let s = node.ready.sheet-fit.class-count in omega (arith, l.0, l.1)) (λ n. in-set x (t.decided x (let s = count_small in let e = node.figure-links in omega arith) n)),
      )
        where
          both : half_of (get_or words x 0) side ≡ 3
          both = ap (λ (i : ℕ). half_of (get_or words i 0) side) (let d : x ≡ suc x - 1 = omega arith in d)
              ∙ (both-half sheet figure atoms links count chains words to (node-described sets to flags opens t) side (suc x) o).1

      -- row i goes to an atom that is not taken
      by_row : (row i : ℕ) → row < atoms → i < rows → get_or taken row 0 ≢ 1 → AtomIn places i row → Guards parts words places atoms side taken g.breaking i
          → ((suc i ∈ g.breaking) × (get_or taken row 0 ≡ 2)) ⊎ OnOneHalf (net_in figure) (on_first side) (suc i)
      by_row row i h l n m (inl u) = absurd (n (ap (λ (k : ℕ). get_or taken k 0) (u.1.2 row m) ∙ u.2))
      by_row row i h l n m (inr (inl u)) = inr (row-half side i l u)
      by_row row i h l n m (inr (inr u)) = inl (u.0, second (u.1 row h m))
        where
          second : Guarded (get_or taken row 0) → get_or taken row 0 ≡ 2
          second (inl e) = absurd (n e)
          second (inr e) = e

      -- the same where what is guarded is shut
      by-row-shut : (now : List ℕ) → Shut atoms taken now → (row i : ℕ) → row < atoms → i < rows → get_or now row 0 ≢ 1 → AtomIn places i row → Guards parts words places atoms side taken g.breaking i
          → ((suc i ∈ []) × (get_or now row 0 ≡ 2)) ⊎ OnOneHalf (net_in figure) (on_first side) (suc i)
      by-row-shut now shut row i h l n m (inl u) = absurd (n (shut row h (inl (ap (λ (k : ℕ). get_or taken k 0) (u.1.2 row m) ∙ u.2))))
      by-row-shut now shut row i h l n m (inr (inl u)) = inr (row-half side i l u)
      by-row-shut now shut row i h l n m (inr (inr u)) = absurd (n (shut row h (u.1 row h m)))

      passed-by : (table list : List ℕ) → ((row i : ℕ) → row < atoms → i < rows → get_or table row 0 ≢ 1 → AtomIn places i row → Guards parts words places atoms side taken g.breaking i → ((suc i ∈ list) × (get_or table row 0 ≡ 2)) ⊎ OnOneHalf (net_in figure) (on_first side) (suc i))
          → (row : ℕ) → row < sheet.atom_count → get_or table row 0 ≢ 1 → (k : Taken (net_in sheet) (net_in figure) p (suc row)) → ((k.by ∈ list) × (get_or table row 0 ≡ 2)) ⊎ OnOneHalf (net_in figure) (on_first side) k.by
      passed-by table list by row h n k = subst (λ (b : ℕ). ((b ∈ list) × (get_or table row 0 ≡ 2)) ⊎ OnOneHalf (net_in figure) (on_first side) b) up
          (by row (k.by - 1) (let d = node.sheet-out.count in omega arith) there n (subst (AtomIn places (k.by - 1)) (let e : atom_target p k.by - 1 ≡ row = omega (arith, k.there) in e) (stays.atoms k.by k.of-figure)) (g.each (k.by - 1) there))
        where
          up : suc (k.by - 1) ≡ k.by
          up = omega (arith, k.of-figure.0)

          there : k.by - 1 < rows
          there = let e = atoms-length figure node.ready.figure-fit in let d = node.figure-out.count in omega (arith, k.of-figure.0, k.of-figure.1)

      stays-agrees : Agrees sheet figure to flags taken guarded side g.breaking p
      stays-agrees = record { good = good; goes = goes; held = held; passed = passed-by taken g.breaking by_row }

      shut-agrees : (now : List ℕ) → Shut atoms taken now → Agrees sheet figure to flags now guarded side [] p
      shut-agrees now shut = record { good = good; goes = goes; held = held; passed = passed-by now [] (by-row-shut now shut) }

  pub none_stays : (places sets to flags opens taken guarded : List ℕ) (side r : ℕ) → Tells parts rows marked marks sets (suc links) to flags opens → GuardsTo parts words places atoms side rows taken r
      → GuardsLinksTo sets opens words flags side count guarded → (b : Bool) → NoneAgrees sheet figure to flags taken guarded side r b → NoneStays sheet figure places sets b
  none_stays places sets to flags opens taken guarded side r t g k b none e p good stays = none e g.breaking (let n = g.number in omega arith) p (stays-agrees places sets p good stays to flags opens t taken guarded side r g k)

  -- and where no way passes what is guarded, none breaks it
  pub none-stays-shut : (places sets to flags opens taken now guarded : List ℕ) (side r : ℕ) → Tells parts rows marked marks sets (suc links) to flags opens → GuardsTo parts words places atoms side rows taken r
      → GuardsLinksTo sets opens words flags side count guarded → Shut atoms taken now → (b : Bool) → NoneAgrees sheet figure to flags now guarded side 0 b → NoneStays sheet figure places sets b
  none-stays-shut places sets to flags opens taken now guarded side r t g k shut b none e p good stays = none e [] (omega arith) p (shut-agrees places sets p good stays to flags opens t taken guarded side r g k now shut)
