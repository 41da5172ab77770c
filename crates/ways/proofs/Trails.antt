-- The laws of a loop that follows ways back from their ends, and counts them.
use Rattle.std.proofs.Common.{◌≡◌, ℕ, suc, ◌+◌, ◌*◌, ◌<◌, ◌≤◌, ◌≢◌, ◌⊎◌, List, [], ◌∷◌, map, length, get_or, set, sym, refl, ap, ◌∙◌, subst, inl, inr, arith, length-set, get_or-set_other, get_or-set_same}
use mathlib.Core.List.Memᴰ
use Rattle.hyperlmntal.specs.Link.{◌∈◌}
use Rattle.rows.specs.Limits.{sheet_atom_limit, sheet_link_limit}
use Rattle.completing.specs.Ways.{Route, afterward, links_of, atoms_of, last_link, Walk, Way, Ways}
use Rattle.ways.specs.Trails.{trail_room, Unflagged, Has, Fresh, AllSeen, Trail, Found, FoundIn, TrailIn, Follows, PassesBack}

-- ---- what was seen

fresh-none : (P was : ℕ → Type 0) → Fresh P was was []
fresh-none P was = record { new = λ y h m. absurd (Memᴰ.not-nil m); seen = λ y h m. absurd (Memᴰ.not-nil m); kept = λ y h. h }

-- One more, which was not seen.
fresh-more : (P was now next : ℕ → Type 0) (z : ℕ) (l : List ℕ) → Fresh P was now l → (P z → ¬ now z) → (P z → next z) → ((y : ℕ) → now y → next y) → Fresh P was next (z ∷ l)
fresh-more P was now next z l f new seen kept = record {
  new = λ y h m. also (λ v. P v → ¬ was v) (λ k w. new k (f.kept z w)) (λ v i k. f.new v k i) y (Memᴰ.cases_cons m) h;
  seen = λ y h m. also (λ v. P v → next v) seen (λ v i k. kept v (f.seen v k i)) y (Memᴰ.cases_cons m) h;
  kept = λ y w. kept y (f.kept y w);
}
  where
    also : (Q : ℕ → Type 0) → Q z → ((y : ℕ) → y ∈ l → Q y) → (y : ℕ) → (y ≡ z) ⊎ (y ∈ l) → Q y
    also Q q r y (inl e) = subst Q (sym e) q
    also Q q r y (inr m) = r y m

-- The list is apart from all that were seen before, and is seen with them.
fresh-apart : {P was now : ℕ → Type 0} {k : List ℕ} {ls : List (List ℕ)} → Fresh P was now k → AllSeen P was ls → (l : List ℕ) → l ∈ ls → (y : ℕ) → P y → y ∈ k → ¬ (y ∈ l)
fresh-apart f s l i y h m j = f.new y h m (s l i y h j)

fresh-all : (P was now : ℕ → Type 0) (k : List ℕ) (ls : List (List ℕ)) → Fresh P was now k → AllSeen P was ls → AllSeen P now (k ∷ ls)
fresh-all P was now k ls f s l i y h m = go (Memᴰ.cases_cons i)
  where
    go : (l ≡ k) ⊎ (l ∈ ls) → now y
    go (inl e) = f.seen y h (subst (λ (v : List ℕ). y ∈ v) e m)
    go (inr j) = f.kept y (s l j y h m)

-- In an array.
has-at : (v : ℕ) (l : List ℕ) (z : ℕ) → Has v l (suc z) → get_or l z 0 ≡ v
has-at v l z t = let e : suc z ≡ suc t.0 = t.1 in let f : z ≡ t.0 = omega arith in ap (λ (i : ℕ). get_or l i 0) f ∙ t.2

-- v is stored for a number that did not have it, or something else where P does not hold.
module _ (v w : ℕ) (now : List ℕ) (z : ℕ) (h : z < length now) (new : get_or now z 0 ≢ v) where
  pub has-not : ¬ Has v now (suc z)
  has-not t = new (has-at v now z t)

  pub has_kept : (y : ℕ) → Has v now y → Has v (set now z w) y
  has_kept y t = (t.0, t.1, get_or-set_other now z t.0 w 0 (λ e. new (subst (λ (i : ℕ). get_or now i 0 ≡ v) e t.2)) ∙ t.2)

  pub has-stored : w ≡ v → Has v (set now z w) (suc z)
  has-stored e = (z, refl, get_or-set_same now z w 0 h ∙ e)

-- ---- trails and ways

module _ {Step : ℕ → ℕ → ℕ → Type 0} {Starts Ends Free GuardedLink GuardedAtom : ℕ → Type 0} where
  -- An end.
  trail-end : (was was-atom : ℕ → Type 0) (y : ℕ) → Ends y → Trail Step Starts Ends Free GuardedLink GuardedAtom was was-atom was was-atom y []
  trail-end was was-atom y e = record { walk = tt; end = e; free = λ z m. absurd (Memᴰ.not-nil m); links = fresh-none GuardedLink was; atoms = fresh-none GuardedAtom was-atom }

  module _ (was was-atom now now-atom next : ℕ → Type 0) (z : ℕ) (l : List (ℕ × ℕ)) (t : Trail Step Starts Ends Free GuardedLink GuardedAtom was was-atom now now-atom z l) (free : Free z)
      (new : GuardedLink z → ¬ now z) (seen : GuardedLink z → next z) (kept : (y : ℕ) → now y → next y) where
    all-free : (y : ℕ) → y ∈ links_of (z, l) → Free y
    all-free y m = go (Memᴰ.cases_cons m)
      where
        go : (y ≡ z) ⊎ (y ∈ afterward l) → Free y
        go (inl e) = subst Free (sym e) free
        go (inr k) = t.free y k

    fresh-links : Fresh GuardedLink was next (links_of (z, l))
    fresh-links = fresh-more GuardedLink was now next z (afterward l) t.links new seen kept

    -- One link further back.
    trail_more : (y j : ℕ) (next-atom : ℕ → Type 0) → Step y j z → (GuardedAtom j → ¬ now-atom j) → (GuardedAtom j → next-atom j) → ((i : ℕ) → now-atom i → next-atom i)
        → Trail Step Starts Ends Free GuardedLink GuardedAtom was was-atom next next-atom y ((j, z) ∷ l)
    trail_more y j next-atom s n g k = record { walk = (s, t.walk); end = t.end; free = all-free; links = fresh-links; atoms = fresh-more GuardedAtom was-atom now-atom next-atom j (atoms_of (z, l)) t.atoms n g k }

    -- At a start it is one way more.
    found-more : Starts z → (n : ℕ) → Found Step Starts Ends Free GuardedLink GuardedAtom was was-atom n → Found Step Starts Ends Free GuardedLink GuardedAtom next now-atom (suc n)
    found-more start n f = record {
      ways = record {
        routes = (z, l) ∷ f.ways.routes;
        count = ap suc f.ways.count;
        all_ways = λ w m. way w (Memᴰ.cases_cons m);
        disjoint = (fresh-apart fresh-links f.links, f.ways.disjoint);
        apart = (fresh-apart t.atoms f.atoms, f.ways.apart);
      };
      links = fresh-all GuardedLink was next (links_of (z, l)) (map links_of f.ways.routes) fresh-links f.links;
      atoms = fresh-all GuardedAtom was-atom now-atom (atoms_of (z, l)) (map atoms_of f.ways.routes) t.atoms f.atoms;
    }
      where
        way : (w : Route) → (w ≡ (z, l)) ⊎ (w ∈ f.ways.routes) → Way Step Starts Ends Free w
        way w (inl e) = subst (Way Step Starts Ends Free) (sym e) (record { walk = t.walk; start = start; end = t.end; free = all-free })
        way w (inr m) = f.ways.all_ways w m

  found_none : (now now-atom : ℕ → Type 0) → Found Step Starts Ends Free GuardedLink GuardedAtom now now-atom 0
  found_none now now-atom = record {
    ways = record { routes = []; count = refl; all_ways = λ w m. absurd (Memᴰ.not-nil m); disjoint = tt; apart = tt };
    links = λ l m. absurd (Memᴰ.not-nil m);
    atoms = λ l m. absurd (Memᴰ.not-nil m);
  }

-- Ways by other words.
pub ways-as : {Step Step' : ℕ → ℕ → ℕ → Type 0} {Starts Starts' Ends Ends' Free Free' GuardedLink GuardedAtom : ℕ → Type 0} → ((y j z : ℕ) → Step y j z → Step' y j z) → ((y : ℕ) → Starts y → Starts' y)
    → ((y : ℕ) → Ends y → Ends' y) → ((y : ℕ) → Free y → Free' y) → (n : ℕ) → Ways Step Starts Ends Free GuardedLink GuardedAtom n → Ways Step' Starts' Ends' Free' GuardedLink GuardedAtom n
ways-as {Step} {Step'} {Starts} {Starts'} {Ends} {Ends'} {Free} {Free'} f g h k n ways =
    record { routes = ways.routes; count = ways.count; all_ways = λ w m. way w (ways.all_ways w m); disjoint = ways.disjoint; apart = ways.apart }
  where
    walk : (l : List (ℕ × ℕ)) (y : ℕ) → Walk Step y l → Walk Step' y l
    walk [] y w = tt
    walk (s ∷ l) y w = (f y s.0 s.1 w.0, walk l s.1 w.1)

    way : (w : Route) → Way Step Starts Ends Free w → Way Step' Starts' Ends' Free' w
    way w v = record { walk = walk w.1 w.0 v.walk; start = g w.0 v.start; end = h (last_link w.0 w.1) v.end; free = λ y m. k y (v.free y m) }

-- ---- in arrays

module _ (laid taken : List ℕ) (atoms : ℕ) (guards : List ℕ) (links : ℕ) (table : List ℕ) where
  pub laid_end : (seen passed : List ℕ) (z : ℕ) → z < links → get_or table (2 * sheet_link_limit + z) 0 ≡ 1 → TrailIn laid taken atoms guards links table seen passed seen passed (suc z)
  laid_end seen passed z h e = ([], trail-end (Has 1 seen) (Has 2 passed) (suc z) (record { place = z; link = refl; place_in = h; flag = e }))

  -- Nothing is seen, and nothing found.
  pub laid_none : (seen passed : List ℕ) → FoundIn laid taken atoms guards links table seen passed 0
  laid_none seen passed = found_none (Has 1 seen) (Has 2 passed)

  -- The steps lead to no start.
  pub laid-left : (was passed₀ now passed : List ℕ) → length now ≡ sheet_link_limit → length passed ≡ sheet_atom_limit → Follows laid taken atoms guards links table was passed₀ now passed 0
  laid-left was passed₀ now passed room atom-room = record { room = room; atom-room = atom-room; few = omega arith; more = λ n. absurd (n refl) }

  -- A link is seen, if it is guarded and was not.
  module _ (was passed₀ now passed : List ℕ) (room : length now ≡ sheet_link_limit) (z : ℕ) (few : links ≤ sheet_link_limit) (here : z < links)
      (t : TrailIn laid taken atoms guards links table was passed₀ now passed (suc z)) (new : get_or now z 0 ≢ 1) (free : get_or table (3 * sheet_link_limit + z) 0 ≢ 1) where
    in-room : z < length now
    in-room = omega arith

    kept : (y : ℕ) → Has 1 now y → Has 1 (set now z (get_or guards z 0)) y
    kept = has_kept 1 (get_or guards z 0) now z in-room new

    stored : Has 1 guards (suc z) → Has 1 (set now z (get_or guards z 0)) (suc z)
    stored g = has-stored 1 (get_or guards z 0) now z in-room new (has-at 1 guards z g)

    unflagged : Unflagged table 3 links (suc z)
    unflagged = record { place = z; link = refl; place_in = here; no_flag = free }

    -- as the loop has it, with links from 0
    pub laid-again : (after : List ℕ) (y : ℕ) → PassesBack laid taken atoms passed after z (suc y) → TrailIn laid taken atoms guards links table was passed₀ (set now z (get_or guards z 0)) after (suc y)
    laid-again after y b = let s = b.step (λ e. absurd (omega arith)) in (
      (s.0, suc z) ∷ t.0,
      trail_more (Has 1 was) (Has 2 passed₀) (Has 1 now) (Has 2 passed) (Has 1 (set now z (get_or guards z 0))) (suc z) t.0 t.1 unflagged
          (λ g. has-not 1 1 now z in-room new) stored kept (suc y) s.0 (Has 2 after) s.1 s.2 s.3 b.kept,
    )

    pub laid-found : (r : ℕ) → r ≤ trail_room → length passed ≡ sheet_atom_limit → get_or table (1 * sheet_link_limit + z) 0 ≡ 1 → Follows laid taken atoms guards links table was passed₀ (set now z (get_or guards z 0)) passed r
    laid-found r small atom-room e = record {
      room = simp length-set room;
      atom-room = atom-room;
      few = small;
      more = λ b. found-more (Has 1 was) (Has 2 passed₀) (Has 1 now) (Has 2 passed) (Has 1 (set now z (get_or guards z 0))) (suc z) t.0 t.1 unflagged
          (λ g. has-not 1 1 now z in-room new) stored kept (record { place = z; link = refl; place_in = here; flag = e });
    }
