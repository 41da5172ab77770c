-- A good placing stays in the sets of the start, as the arrays have them.
use Prim.Native.Nat.{ℕ, ◌+◌, ◌-◌, ◌<◌}
use mathlib.Core.Path.{◌≡◌, refl, sym, ◌∙◌, ap, subst}
use mathlib.Core.List.{List, []}
use native.Mathlib.Omega.{arith}
use lib.ListN.{length, get_or}
use Rattle.hyperlmntal.specs.Link.{◌∈◌}
use Rattle.rows.specs.Limits.{sheet_link_limit}
use Rattle.rows.specs.declared.Atom.{Atom}
use Rattle.rows.specs.declared.Sheet.{Sheet as NormalForm}
use Rattle.placing.specs.Net.{Net, Range, cell_links, Normal}
use Rattle.placing.specs.Placing.{Placing, atom_target, link_target, Good}
use Rattle.network.specs.NetIn.{net_in, atom_at, Fit}
use Rattle.candidates.specs.Laid.{laid_atom, LaidOut}
use Rattle.candidates.specs.Sets.{Decided, Keeps}
use Rattle.candidates.specs.Tables.{AtomIn, LinkIn, MayAtom, MayLink, LinksStay}
use Rattle.candidates.proofs.GoodPlaces.{decided-real, decided-link}
use Rattle.candidates.proofs.NetRows.{atom-name}
use Rattle.candidates.proofs.Sending.{here, there, there-index, same_count, link-sent, link-place}
use Rattle.starting.specs.Count.{count}
use Rattle.starting.specs.Steps.{Alike, places_of, ClosedIn, Enough, MarksOn, MarksBack}
use Rattle.starting.proofs.Marking.{enough-same}
use Rattle.starting.proofs.GoodLinks.{places-among, closed-marks, closed-places}

-- atoms of nets that are alike, as they are laid out
pub alike-laid : (S F : NormalForm) (sheet : List ℕ) (n : ℕ) (figure : List ℕ) (m : ℕ) → LaidOut S sheet n → LaidOut F figure m → (a : List ℕ)
    → ((i t : ℕ) → i < m → t < n → Alike (laid_atom figure i) (laid_atom sheet t) → AtomIn a i t) → (i t : ℕ) → i < m → t < n → Alike (atom_at F i) (atom_at S t) → AtomIn a i t
alike-laid S F sheet n figure m os of a f i t h k like = f i t h k (subst (λ (w : Atom). Alike w (laid_atom sheet t)) (sym (of.atoms i h)) (subst (λ (w : Atom). Alike (atom_at F i) w) (sym (os.atoms t k)) like))

-- places of nets that are enough, as they are counted
pub enough-counted : (S F : NormalForm) → Fit S → Fit F → (closed wanted counts : List ℕ) → ((x : ℕ) → x < sheet_link_limit → get_or wanted x 0 ≡ places_of F x) → ((x : ℕ) → x < sheet_link_limit → get_or counts x 0 ≡ places_of S x) → (l : List ℕ)
    → ((x y : ℕ) → x < F.class_count → y < S.class_count → Enough (get_or closed x 0) (get_or wanted x 0) (get_or counts y 0) → LinkIn l x y)
    → (x y : ℕ) → x < F.class_count → y < S.class_count → Enough (get_or closed x 0) (places_of F x) (places_of S y) → LinkIn l x y
enough-counted S F fs ff closed wanted counts w c l f x y h k e = f x y h k (enough-same e refl (sym (w x (omega (arith, h, ff.class-count)))) (sym (c y (omega (arith, k, fs.class-count)))))

module _ (sheet figure : NormalForm) (fs : Fit sheet) (ff : Fit figure) (NS : Normal (net_in sheet)) (NF : Normal (net_in figure)) where
  abbrev S : Net
  S = net_in sheet

  abbrev F : Net
  F = net_in figure

  module _ (p : Placing) (g : Good S F p) where
    alike_at : (i : ℕ) → Range (length F.atoms) i → Alike (atom_at figure (i - 1)) (atom_at sheet (atom_target p i - 1))
    alike_at i r = record {
      names = sym (atom-name figure ff i (here sheet figure fs ff NS NF p g i r)) ∙ (g.across i r).name ∙ atom-name sheet fs (atom_target p i) (there sheet figure fs ff NS NF p g i r);
      counts = same_count sheet figure fs ff NS NF p g i r;
      echoes = λ k h j l e. link-sent sheet figure fs ff NS NF p g i j r (omega arith) ∙ ap (link_target p) e ∙ sym (link-sent sheet figure fs ff NS NF p g i k r h);
    }

    module _ (x : ℕ) (d : Decided F x) (closed : List ℕ) (shut : ClosedIn figure closed) where
      mine : (x - 1) + 1 ≡ x
      mine = omega (arith, (decided-link S F NS NF p g x d).0)

      its : (link_target p x - 1) + 1 ≡ link_target p x
      its = omega (arith, (decided-real S F NS NF p g x d).0)

      not_there : get_or closed (x - 1) 0 ≡ 1 → ¬ (x ∈ cell_links F.contexts)
      not_there e m = let z : get_or closed (x - 1) 0 ≡ 0 = shut (x - 1) (subst (λ (y : ℕ). y ∈ cell_links F.contexts) (sym mine) m) in omega (arith, e, z)

      enough-at : Enough (get_or closed (x - 1) 0) (places_of figure (x - 1)) (places_of sheet (link_target p x - 1))
      enough-at =
          let a = ap (λ (z : ℕ). count z (cell_links F.atoms)) mine in
          let b = ap (λ (z : ℕ). count z (cell_links S.atoms)) its in
          record { least = omega (arith, a, b, places-among S F NS NF p g x); exact = λ e. omega (arith, a, b, closed-places S F NS NF p g x d (not_there e)) }

      on-at : MarksOn sheet figure (x - 1) (link_target p x - 1)
      on-at m i = subst (λ (z : ℕ). (z, m) ∈ S.marks) (sym its) (g.same-marks.onward x m (subst (λ (z : ℕ). (z, m) ∈ F.marks) mine i))

      back_at : get_or closed (x - 1) 0 ≡ 1 → MarksBack sheet figure (x - 1) (link_target p x - 1)
      back_at e m i = subst (λ (z : ℕ). (z, m) ∈ F.marks) (sym mine) (closed-marks S F NS NF p g x d (not_there e) m (subst (λ (z : ℕ). (z, m) ∈ S.marks) its i))

  -- by the four steps
  pub start-keeps : (a l₁ l₂ l₃ closed : List ℕ) → ClosedIn figure closed
      → ((i t : ℕ) → i < figure.atom_count → t < sheet.atom_count → Alike (atom_at figure i) (atom_at sheet t) → AtomIn a i t)
      → ((x y : ℕ) → x < figure.class_count → y < sheet.class_count → Enough (get_or closed x 0) (places_of figure x) (places_of sheet y) → LinkIn l₁ x y)
      → LinksStay l₁ l₂ (MarksOn sheet figure)
      → LinksStay l₂ l₃ (λ x y. get_or closed x 0 ≡ 1 → MarksBack sheet figure x y)
      → Keeps (net_in sheet) (net_in figure) [] (MayAtom a) (MayLink l₃)
  start-keeps a l₁ l₂ l₃ closed shut alike enough on back p g b = record { atoms = atoms; links = links }
    where
      atoms : (i : ℕ) → Range (length F.atoms) i → MayAtom a i (atom_target p i)
      atoms i r = let u = here sheet figure fs ff NS NF p g i r in
          alike (i - 1) (atom_target p i - 1) (omega (arith, u.0, u.1)) (there-index sheet figure fs ff NS NF p g i r) (alike_at p g i r)

      links : (x : ℕ) → Decided F x → MayLink l₃ x (link_target p x)
      links x d =
          let u = decided-link S F NS NF p g x d in
          let v = link-place sheet figure fs ff NS NF p g x d in
          let w : link_target p x - 1 < sheet_link_limit = omega (arith, v, fs.class-count) in
          back (x - 1) (link_target p x - 1) w
          (on (x - 1) (link_target p x - 1) w (enough (x - 1) (link_target p x - 1) (omega (arith, u.0, u.1)) v (enough-at p g x d closed shut)) (on-at p g x d closed shut))
          (back_at p g x d closed shut)
