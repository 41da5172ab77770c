-- Colours in arrays: the first, those of later rounds, and what they tell of good placings.
use Rattle.std.proofs.Common.{◌≡◌, ℕ, suc, ◌+◌, ◌-◌, ◌%◌, ◌<◌, ◌≢◌, List, [], map, length, get_or, take, sym, ap, ◌∙◌, ap₂, arith}
use Rattle.rows.specs.Limits.{sheet_link_limit}
use Rattle.rows.specs.declared.Sheet.{Sheet as NormalForm}
use Rattle.placing.specs.Net.{NetCell, Range, Normal, NormalSheet}
use Rattle.placing.specs.Placing.{Placing, cell_at, atom_target, link_target, Good}
use Rattle.network.specs.NetIn.{net_in, context_in, Fit}
use Rattle.network.specs.Sums.{sum_to}
use Rattle.network.proofs.NetIn.{atoms-length}
use Rattle.candidates.specs.Laid.{laid_atom, LaidOut}
use Rattle.candidates.specs.Sets.{Decided, Keeps}
use Rattle.candidates.specs.Tables.{AtomIn, LinkIn, MayAtom, MayLink}
use Rattle.candidates.proofs.GoodPlaces.{decided-link}
use Rattle.candidates.proofs.Sending.{here, there-index, link-place}
use Rattle.colours.specs.Colours.{pattern, marks_at, first, next, Agree}
use Rattle.colours.specs.Pieces.{Sizes}
use Rattle.colours.specs.Mixed.{word_size, mixing, joined_marks}
use Rattle.colours.specs.Arrays.{held, KeptIn}
use Rattle.colours.proofs.ColourLaws.{first-kept, next-kept, total_kept, agree-kept}
use Rattle.colours.proofs.RoundCode.{cell-laid}

-- The first colours, by the sizes in the array that had them before.
pub first-agree : (net : NormalForm) (laid : List ℕ) (n : ℕ) → LaidOut net laid n → (sizes atoms links : List ℕ)
    → ((t : ℕ) → t < n → get_or atoms t 0 ≡ mixing.atom_first (laid_atom laid t).name (get_or sizes t 0) (pattern (take (laid_atom laid t).count (laid_atom laid t).links)))
    → ((x : ℕ) → x < sheet_link_limit → get_or links x 0 ≡ joined_marks (marks_at (suc x) (net_in net).marks))
    → Agree (net_in net) (first mixing (net_in net) (λ j. get_or sizes (j - 1) 0)) (held atoms links)
first-agree net laid n o sizes atoms links a l = record { atoms = atom; links = link }
  where
    atom : (j : ℕ) → Range (length (net_in net).atoms) j → (first mixing (net_in net) (λ i. get_or sizes (i - 1) 0)).of_atom j ≡ get_or atoms (j - 1) 0
    atom j r =
        let b : j - 1 < n = omega (arith, r.0, r.1, atoms-length net o.fit, o.count) in
        let q : j ≡ suc (j - 1) = omega (arith, r.0) in
        ap (λ (c : NetCell). mixing.atom_first c.0 (get_or sizes (j - 1) 0) (pattern c.1)) (ap (cell_at (net_in net).atoms) q ∙ cell-laid net laid n o (j - 1) b) ∙ sym (a (j - 1) b)

    link : (x : ℕ) → Range (net_in net).links x → joined_marks (marks_at x (net_in net).marks) ≡ get_or links (x - 1) 0
    link x r = ap (λ (y : ℕ). joined_marks (marks_at y (net_in net).marks)) (let q : x ≡ suc (x - 1) = omega (arith, r.0) in q) ∙ sym (l (x - 1) (omega (arith, r.0, r.1, o.fit.class-count)))

-- A sheet: no contexts in the array.
pub without-contexts : (net : NormalForm) → Normal (net_in net) → net.context_count ≡ 0 → NormalSheet (net_in net)
without-contexts net normal e = record { normal = normal; no-contexts = ap (λ (k : ℕ). map context_in (take k net.contexts)) e }

module _ (sheet figure : NormalForm) (NS : NormalSheet (net_in sheet)) (NF : NormalSheet (net_in figure)) where
  pub kept-first : (a b : ℕ → ℕ) → Sizes (net_in sheet) a → Sizes (net_in figure) b → (sa sl fa fl : List ℕ) → Agree (net_in sheet) (first mixing (net_in sheet) a) (held sa sl) → Agree (net_in figure) (first mixing (net_in figure) b) (held fa fl) → KeptIn sheet figure fa fl sa sl
  kept-first a b u v sa sl fa fl s f p g = agree-kept (net_in sheet) (net_in figure) NS NF p g _ _ (first-kept (net_in sheet) (net_in figure) NS NF p g mixing b a v u) _ _ f s

  pub kept_next : (sa sl fa fl sa' sl' fa' fl' : List ℕ) → KeptIn sheet figure fa fl sa sl → Agree (net_in sheet) (next mixing (net_in sheet) (held sa sl)) (held sa' sl') → Agree (net_in figure) (next mixing (net_in figure) (held fa fl)) (held fa' fl') → KeptIn sheet figure fa' fl' sa' sl'
  kept_next sa sl fa fl sa' sl' fa' fl' k s f p g = agree-kept (net_in sheet) (net_in figure) NS NF p g _ _ (next-kept (net_in sheet) (net_in figure) NS NF p g mixing _ _ (k p g)) _ _ f s

  module _ (sa sl fa fl : List ℕ) (kept : KeptIn sheet figure fa fl sa sl) where
    -- Sums that differ: there is no good placing.
    pub sums-differ : (n c m d s f : ℕ) → length (net_in sheet).atoms ≡ n → (net_in sheet).links ≡ c → length (net_in figure).atoms ≡ m → (net_in figure).links ≡ d
        → s ≡ (sum_to (held sa sl).of_atom n + sum_to (held sa sl).of_link c) % word_size → f ≡ (sum_to (held fa fl).of_atom m + sum_to (held fa fl).of_link d) % word_size → s ≢ f → (p : Placing) → ¬ Good (net_in sheet) (net_in figure) p
    sums-differ n c m d s f en ec em ed es ef differ p g = differ (es ∙ sym (ap₂ (λ (i j : ℕ). (sum_to (held sa sl).of_atom i + sum_to (held sa sl).of_link j) % word_size) en ec) ∙ ap (λ (z : ℕ). z % word_size) (sym (total_kept (net_in sheet) (net_in figure) NS NF p g _ _ (kept p g))) ∙ ap₂ (λ (i j : ℕ). (sum_to (held fa fl).of_atom i + sum_to (held fa fl).of_link j) % word_size) em ed ∙ sym ef)

    -- Sets by colours keep every good placing.
    module _ (fs : Fit sheet) (ff : Fit figure) where
      pub colours-keep : (atoms links : List ℕ) → ((i t : ℕ) → i < figure.atom_count → t < sheet.atom_count → get_or fa i 0 ≡ get_or sa t 0 → AtomIn atoms i t)
          → ((x y : ℕ) → x < figure.class_count → y < sheet.class_count → get_or fl x 0 ≡ get_or sl y 0 → LinkIn links x y) → Keeps (net_in sheet) (net_in figure) [] (MayAtom atoms) (MayLink links)
      colours-keep atoms links a l p g b = record { atoms = atom; links = link }
        where
          atom : (i : ℕ) → Range (length (net_in figure).atoms) i → MayAtom atoms i (atom_target p i)
          atom i r = let u = here sheet figure fs ff NS.normal NF.normal p g i r in
              a (i - 1) (atom_target p i - 1) (omega (arith, u.0, u.1)) (there-index sheet figure fs ff NS.normal NF.normal p g i r) ((kept p g).atoms i r)

          link : (x : ℕ) → Decided (net_in figure) x → MayLink links x (link_target p x)
          link x d =
              let u = decided-link (net_in sheet) (net_in figure) NS.normal NF.normal p g x d in
              l (x - 1) (link_target p x - 1) (omega (arith, u.0, u.1)) (link-place sheet figure fs ff NS.normal NF.normal p g x d) ((kept p g).links x u)
