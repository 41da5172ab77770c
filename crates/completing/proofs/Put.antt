-- One unsettled link put at a sheet link.
use Prim.Native.Nat.{ℕ, suc, ◌-◌}
use mathlib.Core.Path.{◌≡◌, refl, sym, ◌∙◌, ap, subst}
use mathlib.Core.Logic.{◌≢◌}
use mathlib.Core.List.Memᴰ
use mathlib.Core.List.{List}
use native.Mathlib.Decide.{ℕ_discrete}
use native.Mathlib.Omega.{arith}
use lib.ListN.{length, length-set}
use lib.Seq.{get_or-set_same, get_or-set_other}
use Rattle.hyperlmntal.specs.Link.{◌∈◌}
use Rattle.hyperlmntal.proofs.Lists.{map-agree}
use Rattle.placing.specs.Net.{Net, Range, Normal}
use Rattle.placing.specs.Placing.{Placing, cell_at, link_target, Across, SameMarks}
use Rattle.placing.proofs.Standing.{mark-link, place-link}
use Rattle.completing.specs.Completion.{Open, Partial, Completion, Completable, put, remove}
use Rattle.completing.proofs.Lists.{of-remove, in_remove}

-- More links unsettled.
pub completion-wider : (S F : Net) (q : Placing) (un un' : List ℕ) → ((x : ℕ) → x ∈ un → x ∈ un') → (p : Placing) → Completion S F q un p → Completion S F q un' p
completion-wider S F q un un' f p c = record { good = c.good; same-atoms = c.same-atoms; settled = λ x r n. c.settled x r (λ m. n (f x m)) }

pub completable-wider : (S F : Net) (q : Placing) (un un' : List ℕ) → ((x : ℕ) → x ∈ un → x ∈ un') → Completable S F q un → Completable S F q un'
completable-wider S F q un un' f c = (c.0, completion-wider S F q un un' f c.0 c.1)

pub partial-fewer : (S F : Net) (q : Placing) (un un' : List ℕ) → ((x : ℕ) → x ∈ un' → x ∈ un) → Partial S F q un → Partial S F q un'
partial-fewer S F q un un' f a = record {
  atoms-sent = a.atoms-sent;
  to-atoms = a.to-atoms;
  different = a.different;
  links-sent = a.links-sent;
  to-links = a.to-links;
  across = a.across;
  same-marks = a.same-marks;
  are-open = λ x m. a.are-open x (f x m);
  read_none = λ x m. a.read_none x (f x m);
}

-- An open link sent to y, wherever it went before.
module _ (S F : Net) (NF : Normal F) (q : Placing) (sent : length q.links_to ≡ F.links) (x : ℕ) (o : Open F x) (y : ℕ) where
  pub put-here : link_target (put q x y) x ≡ y
  put-here = let r = o.is-link in get_or-set_same q.links_to (x - 1) y 0 (omega (arith, r.0, r.1))

  pub put_other : (z : ℕ) → Range F.links z → z ≢ x → link_target (put q x y) z ≡ link_target q z
  put_other z r n = let h = o.is-link in get_or-set_other q.links_to (x - 1) (z - 1) y 0 (λ e. n (omega (arith, r.0, h.0, e)))

  pub put-sent : length (put q x y).links_to ≡ F.links
  put-sent = length-set q.links_to (x - 1) y ∙ sent

  pub put-cases : (P : ℕ → Type 0) → P y → ((z : ℕ) → Range F.links z → P (link_target q z)) → (z : ℕ) → Range F.links z → P (link_target (put q x y) z)
  put-cases P u v z r = go (ℕ_discrete z x)
    where
      go : Dec (z ≡ x) → P (link_target (put q x y) z)
      go (yes e) = subst (λ (w : ℕ). P (link_target (put q x y) w)) (sym e) (subst P (sym put-here) u)
      go (no n) = subst P (sym (put_other z r n)) (v z r)

  pub put-across : ((i : ℕ) → Range (length F.atoms) i → Across S F q i) → (i : ℕ) → Range (length F.atoms) i → Across S F (put q x y) i
  put-across across i r = record {
    name = (across i r).name;
    places = map-agree (link_target (put q x y)) (link_target q) (cell_at F.atoms i).1 on-atom ∙ (across i r).places;
  }
    where
      on-atom : (z : ℕ) → z ∈ (cell_at F.atoms i).1 → link_target (put q x y) z ≡ link_target q z
      on-atom z m = put_other z (place-link F NF i z r m) (λ e. o.no-atom i r (Memᴰ.cast (sym e) m))

  pub put-marks : SameMarks S F q → SameMarks S F (put q x y)
  put-marks marks = record { onward = on-mark; backward = marks.backward }
    where
      on-mark : (z m : ℕ) → (z, m) ∈ F.marks → (link_target (put q x y) z, m) ∈ S.marks
      on-mark z m h =
          let same = put_other z (mark-link F NF z m h) (λ e. o.no-mark m (subst (λ (w : ℕ). (w, m) ∈ F.marks) e h)) in
          subst (λ (w : ℕ). (w, m) ∈ S.marks) (sym same) (marks.onward z m h)

module _ (S F : Net) (NF : Normal F) (q : Placing) (un : List ℕ) (a : Partial S F q un) (x : ℕ) (mine : x ∈ un) (y : ℕ) where
  open-x : Open F x
  open-x = a.are-open x mine

  there : link_target (put q x y) x ≡ y
  there = put-here S F NF q a.links-sent x open-x y

  elsewhere : (z : ℕ) → Range F.links z → z ≢ x → link_target (put q x y) z ≡ link_target q z
  elsewhere = put_other S F NF q a.links-sent x open-x y

  pub put-partial : Range (suc S.links) y → Partial S F (put q x y) (remove x un)
  put-partial real = record {
    atoms-sent = a.atoms-sent;
    to-atoms = a.to-atoms;
    different = a.different;
    links-sent = put-sent S F NF q a.links-sent x open-x y;
    to-links = put-cases S F NF q a.links-sent x open-x y (Range (suc S.links)) real a.to-links;
    across = put-across S F NF q a.links-sent x open-x y a.across;
    same-marks = put-marks S F NF q a.links-sent x open-x y a.same-marks;
    are-open = λ z m. a.are-open z (of-remove z x un m).0;
    read_none = λ z m. let t = of-remove z x un m in elsewhere z (a.are-open z t.0).is-link t.1 ∙ a.read_none z t.0;
  }

  -- a completion that sends x to y completes the state with x put at y,
  pub completion-put : (p : Placing) → Completion S F q un p → link_target p x ≡ y → Completion S F (put q x y) (remove x un) p
  completion-put p c e = record { good = c.good; same-atoms = c.same-atoms; settled = λ z r n. go z r n (ℕ_discrete z x) }
    where
      go : (z : ℕ) → Range F.links z → ¬ (z ∈ remove x un) → Dec (z ≡ x) → link_target p z ≡ link_target (put q x y) z
      go z r n (yes f) = ap (link_target p) f ∙ (e ∙ (sym there ∙ ap (link_target (put q x y)) (sym f)))
      go z r n (no f) = c.settled z r (λ u. n (in_remove z x un u f)) ∙ sym (elsewhere z r f)

  -- and back.
  pub put-completion : (p : Placing) → Completion S F (put q x y) (remove x un) p → Completion S F q un p
  put-completion p c = record {
    good = c.good;
    same-atoms = c.same-atoms;
    settled = λ z r n. c.settled z r (λ u. n (of-remove z x un u).0) ∙ elsewhere z r (λ e. n (Memᴰ.cast e mine));
  }

  pub put-there : (p : Placing) → Completion S F (put q x y) (remove x un) p → link_target p x ≡ y
  put-there p c = c.settled x open-x.is-link (λ u. (of-remove x x un u).1 refl) ∙ there

  pub completable-back : Completable S F (put q x y) (remove x un) → Completable S F q un
  completable-back c = (c.0, put-completion c.0 c.1)
