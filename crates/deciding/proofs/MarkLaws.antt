-- What the marks say of the figure links, as the code reads it.
use Prim.Native.Nat.{ℕ, suc, ◌+◌, ◌-◌, ◌<◌}
use mathlib.Core.Path.{◌≡◌, sym, ◌∙◌, ap, subst}
use mathlib.Core.Logic.{◌≢◌}
use mathlib.Core.List.{List}
use native.Mathlib.Omega.{arith}
use native.Mathlib.Numerals.{add-one}
use lib.ListN.{length, take, get_or}
use Rattle.hyperlmntal.specs.Link.{◌∈◌}
use Rattle.rows.specs.Limits.{sheet_link_limit}
use Rattle.rows.specs.declared.Sheet as form
use Rattle.placing.specs.Net.{Net}
use Rattle.network.specs.NetIn.{net_in}
use Rattle.network.specs.Ready.{Ready, AtomsIn}
use Rattle.network.proofs.NetIn.{mark-in, mark_of}
use Rattle.candidates.specs.Marks.{MarksIn}
use Rattle.completing.specs.Leaf.{NoneWith}
use Rattle.completing.proofs.State.{by-mark}
use Rattle.deciding.specs.Links.{Enters, Tells, Told}
use Rattle.deciding.specs.Agrees.{AtomsAgree, MarkAgrees, MarksAgreeTo}
use Rattle.deciding.proofs.Sets.{below-cases}
use Rattle.deciding.proofs.Places.{number-some, enters-room, enters-at, enters-kept, enters-each}
use Rattle.deciding.proofs.Telling.{tells-clash, atoms-kept}

-- what the loop over the marks keeps
pub record MarksTold (sheet figure : form.Sheet) (atoms to : List ℕ) (i : ℕ) : Type 0 where
  pub told : Told sheet figure atoms to
  pub atoms-agree : AtomsAgree sheet figure atoms to
  pub marks-agree : MarksAgreeTo sheet figure to i

module _ (sheet figure : form.Sheet) (ready : Ready sheet figure) (atoms : List ℕ) where
  abbrev S : Net
  S = net_in sheet

  abbrev F : Net
  F = net_in figure

  abbrev l : List ℕ
  l = take figure.atom_count atoms

  -- a mark of the figure that is not on the sheet
  mark-missing : (i : ℕ) → i < figure.mark_count → ((j : ℕ) → j < sheet.mark_count → get_or sheet.marks j 0 ≢ get_or figure.marks i 0) → NoneWith S F l
  mark-missing i h n p g e =
      let t = mark_of sheet ready.sheet-fit _ (g.same-marks.onward (get_or figure.marked i 0) (get_or figure.marks i 0) (mark-in figure ready.figure-fit i h)) in
      n t.0 t.1 (ap (λ (w : ℕ × ℕ). w.1) t.2)

  -- a mark of the sheet that is not in the figure
  pub back-missing : (i : ℕ) → i < sheet.mark_count → ((j : ℕ) → j < figure.mark_count → get_or figure.marks j 0 ≢ get_or sheet.marks i 0) → NoneWith S F l
  back-missing i h n p g e =
      let b = g.same-marks.backward (get_or sheet.marked i 0) (get_or sheet.marks i 0) (mark-in sheet ready.sheet-fit i h) in
      let t = mark_of figure ready.figure-fit _ b.1 in
      n t.0 t.1 (ap (λ (w : ℕ × ℕ). w.1) t.2)

  module _ (i j : ℕ) (h : i < figure.mark_count) (k : j < sheet.mark_count) (same : get_or sheet.marks j 0 ≡ get_or figure.marks i 0) where
    abbrev x : ℕ
    x = get_or figure.marked i 0 - 1

    abbrev y : ℕ
    y = get_or sheet.marked j 0

    link : get_or figure.marked i 0 ≡ suc x
    link = omega (arith, (ready.figure-fit.marked i h).0)

    pub mark-small : x < sheet_link_limit
    mark-small = omega (arith, (ready.figure-fit.marked i h).0, (ready.figure-fit.marked i h).1, ready.figure-fit.class-count)

    on-figure : (suc x, get_or figure.marks i 0) ∈ F.marks
    on-figure = subst (λ (z : ℕ). (z, get_or figure.marks i 0) ∈ F.marks) link (mark-in figure ready.figure-fit i h)

    on-sheet : (y, get_or figure.marks i 0) ∈ S.marks
    on-sheet = subst (λ (m : ℕ). (y, m) ∈ S.marks) same (mark-in sheet ready.sheet-fit j k)

    tells-mark : Tells S F l (suc x) y
    tells-mark = record { closed = λ o. o.no-mark _ on-figure; said = λ p g e. by-mark S F l p g e ready.sheet-normal (suc x) y _ on-figure on-sheet }

    module _ (to : List ℕ) where
      mark-clash : Told sheet figure atoms to → get_or to x 0 ≢ 0 → get_or to x 0 ≢ y → NoneWith S F l
      mark-clash t n d = tells-clash S F l (suc x) (get_or to x 0) y (t.told x n) tells-mark d

      marks-next : AtomsIn sheet figure.atom_count atoms → MarksTold sheet figure atoms to i → (r : List ℕ) → Enters to x y r → MarksTold sheet figure atoms r (i + 1)
      marks-next a t r e = record {
        told = record { room = enters-room to room x y mark-small r e; told = enters-each to room x y mark-small r e (λ z v. Tells S F l (suc z) v) tells-mark t.told.told };
        atoms-agree = atoms-kept sheet figure ready atoms a to r kept figure.atom_count (omega arith) t.atoms-agree;
        marks-agree = λ n u. below-cases (MarkAgrees sheet figure r) i n (omega (arith, add-one i)) (λ w. still n (t.marks-agree n w))
            (record { at = j; on-sheet = k; mark = same; link = enters-at to room x y mark-small r e });
      }
        where
          room : length to ≡ sheet_link_limit
          room = t.told.room

          kept : (z : ℕ) → get_or to z 0 ≢ 0 → get_or r z 0 ≡ get_or to z 0
          kept = enters-kept to room x y mark-small r e

          still : (n : ℕ) → MarkAgrees sheet figure to n → MarkAgrees sheet figure r n
          still n m = record {
            at = m.at;
            on-sheet = m.on-sheet;
            mark = m.mark;
            link = kept (get_or figure.marked n 0 - 1) (λ f. number-some (get_or sheet.marked m.at 0) (ready.sheet-fit.marked m.at m.on-sheet).0 (sym m.link ∙ f)) ∙ m.link;
          }

-- the same of arrays, for every sheet and figure whose marks they hold
module _ (marks marked : List ℕ) (n : ℕ) (figure-marks figure-marked : List ℕ) (m : ℕ) where
  abbrev pub MarksSaid : List ℕ → List ℕ → ℕ → Type 0
  MarksSaid before to i = (sheet figure : form.Sheet) → MarksIn sheet marks marked n → MarksIn figure figure-marks figure-marked m → (atoms : List ℕ) → AtomsIn sheet figure.atom_count atoms → Told sheet figure atoms before → AtomsAgree sheet figure atoms before → MarksTold sheet figure atoms to i

  module _ (sheet figure : form.Sheet) (os : MarksIn sheet marks marked n) (of : MarksIn figure figure-marks figure-marked m) (atoms : List ℕ) where
    both-ready : Ready sheet figure
    both-ready = record { sheet-fit = os.fit; figure-fit = of.fit; sheet-normal = os.normal; figure-normal = of.normal }

    pub said-missing : (i : ℕ) → i < m → ((j : ℕ) → j < n → get_or marks j 0 ≢ get_or figure-marks i 0) → NoneWith (net_in sheet) (net_in figure) (take figure.atom_count atoms)
    said-missing i h d = mark-missing sheet figure both-ready atoms i (omega (arith, h, of.count))
        (λ j k e. d j (omega (arith, k, os.count)) (ap (λ (l : List ℕ). get_or l j 0) (sym os.same-marks) ∙ (e ∙ ap (λ (l : List ℕ). get_or l i 0) of.same-marks)))

    module _ (i j : ℕ) (h : i < m) (k : j < n) (same : get_or marks j 0 ≡ get_or figure-marks i 0) where
      figure-mark : i < figure.mark_count
      figure-mark = omega (arith, h, of.count)

      sheet-mark : j < sheet.mark_count
      sheet-mark = omega (arith, k, os.count)

      same-mark : get_or sheet.marks j 0 ≡ get_or figure.marks i 0
      same-mark = ap (λ (l : List ℕ). get_or l j 0) os.same-marks ∙ (same ∙ ap (λ (l : List ℕ). get_or l i 0) (sym of.same-marks))

      -- of the links in the arrays, so of those of the nets
      of-links : (Q : ℕ → ℕ → Type 0) → Q (get_or figure-marked i 0 - 1) (get_or marked j 0) → Q (get_or figure.marked i 0 - 1) (get_or sheet.marked j 0)
      of-links Q q = subst (λ (l : List ℕ). Q (get_or l i 0 - 1) (get_or sheet.marked j 0)) (sym of.same-marked) (subst (λ (l : List ℕ). Q (get_or figure-marked i 0 - 1) (get_or l j 0)) (sym os.same-marked) q)

      module _ (to : List ℕ) where
        pub said-clash : Told sheet figure atoms to → (get_or to (get_or figure-marked i 0 - 1) 0 ≢ 0) × (get_or to (get_or figure-marked i 0 - 1) 0 ≢ get_or marked j 0) → NoneWith (net_in sheet) (net_in figure) (take figure.atom_count atoms)
        said-clash t d = let e = of-links (λ (x y : ℕ). (get_or to x 0 ≢ 0) × (get_or to x 0 ≢ y)) d in
            mark-clash sheet figure both-ready atoms i j figure-mark sheet-mark same-mark to t e.0 e.1

        said-told : AtomsIn sheet figure.atom_count atoms → MarksTold sheet figure atoms to i → (r : List ℕ) → Enters to (get_or figure-marked i 0 - 1) (get_or marked j 0) r → MarksTold sheet figure atoms r (i + 1)
        said-told a t r e = marks-next sheet figure both-ready atoms i j figure-mark sheet-mark same-mark to a t r (of-links (λ (x y : ℕ). Enters to x y r) e)

  pub said-mark : (before : List ℕ) (i j : ℕ) → i < m → j < n → get_or marks j 0 ≡ get_or figure-marks i 0 → (to : List ℕ) → MarksSaid before to i → (r : List ℕ) → Enters to (get_or figure-marked i 0 - 1) (get_or marked j 0) r → MarksSaid before r (i + 1)
  said-mark before i j h k same to s r e sheet figure os of atoms a t w = said-told sheet figure os of atoms i j h k same to a (s sheet figure os of atoms a t w) r e
