-- Of a figure's context only its number and the set of its links matter: two figures that differ in the order of these links, or in
-- how often each stands there, have the same good placings. Of a sheet's contexts nothing matters.
use Prim.Native.Nat.{ℕ}
use mathlib.Core.Path.{◌≡◌, refl, sym, ◌∙◌}
use mathlib.Core.Logic.{◌⊎◌, inl, inr, ⊎_elim}
use mathlib.Core.List.Memᴰ
use mathlib.Core.List.{List, ◌++◌}
use mathlib.Core.Option.{Option, none, some}
use Rattle.hyperlmntal.specs.Link.{◌∈◌}
use Rattle.placing.specs.Net.{NetCell, Net, cell_links, mark_links, standing, Normal}
use Rattle.placing.specs.Placing.{Placing, given_to, Taken, At, Linked, here, step, PortAt, Inside, Good}
use Rattle.placing.specs.Smallest.{smallest}
use Rattle.placing.proofs.Standing.{in_cells, of-cells}
use Rattle.placing.proofs.SmallestLaws.{smallest-good, smallest-least, smallest-none, smallest-only}

-- each row of the one list is there in the other, with its number and with all its links
abbrev pub RowsIn : List NetCell → List NetCell → Type 0
RowsIn cs ds = (row : NetCell) → row ∈ cs → (other : NetCell) × (other ∈ ds) × (other.0 ≡ row.0) × ((x : ℕ) → x ∈ row.1 → x ∈ other.1)

pub record SamePorts (cs ds : List NetCell) : Type 0 where
  pub onward : RowsIn cs ds
  pub back : RowsIn ds cs

pub turned : {cs ds : List NetCell} → SamePorts cs ds → SamePorts ds cs
turned s = record { onward = s.back; back = s.onward }

-- a net with other contexts
abbrev pub with_contexts : Net → List NetCell → Net
with_contexts F cs = record { atoms = F.atoms; contexts = cs; marks = F.marks; links = F.links }

module _ (F : Net) (ds : List NetCell) (same : SamePorts F.contexts ds) where
  abbrev G : Net
  G = with_contexts F ds

  links-in : (cs es : List NetCell) → RowsIn cs es → (x : ℕ) → x ∈ cell_links cs → x ∈ cell_links es
  links-in cs es r x m = let t = of-cells cs x m in let o = r t.0 t.1 in in_cells es o.0 x o.1 (o.3 x t.2)

  stands : (cs es : List NetCell) → RowsIn cs es → (x : ℕ) → x ∈ standing (with_contexts F cs) → x ∈ standing (with_contexts F es)
  stands cs es r x m = ⊎_elim
      (λ a. Memᴰ.append_left (cell_links es ++ mark_links F.marks) a)
      (λ n. Memᴰ.append_right (cell_links F.atoms) (⊎_elim
      (λ c. Memᴰ.append_left (mark_links F.marks) (links-in cs es r x c))
      (λ e. Memᴰ.append_right (cell_links es) e)
      (Memᴰ.append_cases (cell_links cs) n)))
      (Memᴰ.append_cases (cell_links F.atoms) m)

  pub normal-with : Normal F → Normal G
  normal-with n = record {
    numbered = λ x m. n.numbered x (stands ds F.contexts same.back x m);
    used = λ x r. stands F.contexts ds same.onward x (n.used x r);
    one_link = n.one_link;
  }

  module _ (S : Net) (es : List NetCell) (p : Placing) where
    abbrev T : Net
    T = with_contexts S es

    taken : (j : ℕ) → Taken T G p j → Taken S F p j
    taken j t = record { by = t.by; of-figure = t.of-figure; there = t.there }

    not_taken : (j : ℕ) → ¬ Taken T G p j → ¬ Taken S F p j
    not_taken j n t = n (record { by = t.by; of-figure = t.of-figure; there = t.there })

    at : (x y : ℕ) → At S F p x y → At T G p x y
    at x y h = record { figure-link = h.figure-link; sheet-link = h.sheet-link; there = h.there }

    from : (x y : ℕ) → At T G p x y → At S F p x y
    from x y h = record { figure-link = h.figure-link; sheet-link = h.sheet-link; there = h.there }

    linked : {y x z : ℕ} → Linked S F p y x z → Linked T G p y x z
    linked here = here
    linked {y = y} (step {x = x} {x' = z} s l) =
        let o = same.onward s.row s.of-figure in
        step (record { row = o.0; of-figure = o.1; first = o.3 x s.first; second = o.3 z s.second; first-at = at x y s.first-at; second_at = at z y s.second_at }) (linked l)

    own : (k y : ℕ) → PortAt S F p k y ⊎ Inside S F p k y → PortAt T G p k y ⊎ Inside T G p k y
    own k y (inl r) =
        let o = same.onward r.row r.of-figure in
        inl (record { row = o.0; of-figure = o.1; number = o.2 ∙ r.number; link = r.link; port = o.3 r.link r.port; there = r.there })
    own k y (inr r) = inr (record {
      no-figure-link = r.no-figure-link;
      no-mark = r.no-mark;
      only-there = λ j h m. let o = r.only-there j h m in ((λ t. o.0 (taken j t)), o.1);
    })

    pub good-with : Good S F p → Good T G p
    good-with g =
        let s = g.sending in
        record {
          sending = record {
            atoms-sent = s.atoms-sent;
            to-atoms = s.to-atoms;
            different = s.different;
            links-sent = s.links-sent;
            to-links = s.to-links;
            atoms-given = s.atoms-given;
            not-given = λ j r t. s.not-given j r (taken j t);
            to-contexts = λ j r n. let c = s.to-contexts j r (not_taken j n) in let o = same.onward c.0 c.1 in (o.0, o.1, o.2 ∙ c.2);
          };
          across = λ i r. record { name = (g.across i r).name; places = (g.across i r).places };
          same-marks = record { onward = g.same-marks.onward; backward = g.same-marks.backward };
          linked = λ x z y h k. linked (g.linked x z y (from x y h) (from z y k));
          own-links = λ j r n y m. own (given_to p j) y (g.own-links j r (not_taken j n) y m);
        }

-- and so the same smallest
pub smallest-with : (S F : Net) (es ds : List NetCell) → SamePorts F.contexts ds → smallest S F ≡ smallest (with_contexts S es) (with_contexts F ds)
smallest-with S F es ds same = go (smallest S F) refl
  where
    T : Net
    T = with_contexts S es

    G : Net
    G = with_contexts F ds

    back : (p : Placing) → Good T G p → Good S F p
    back p g = good-with G F.contexts (turned same) T S.contexts p g

    go : (o : Option Placing) → smallest S F ≡ o → o ≡ smallest T G
    go none e = sym ((smallest-none T G).1 (λ p g. (smallest-none S F).0 e p (back p g)))
    go (some p) e = sym (smallest-only T G p (good-with F ds same S es p (smallest-good S F p e)) (λ q g. smallest-least S F p e q (back q g)))
