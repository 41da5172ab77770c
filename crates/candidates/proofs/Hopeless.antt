-- A marked link that may go nowhere leaves no good placing.
use Prim.Native.Nat.{ℕ, ◌+◌, ◌-◌, ◌<◌}
use mathlib.Core.Path.{◌≡◌, sym, ◌∙◌, ap, subst}
use mathlib.Core.Bool.{false}
use mathlib.Core.List.{List}
use native.Mathlib.Decide.{ℕ_discrete}
use native.Mathlib.Omega.{arith}
use lib.ListN.{get_or}
use Rattle.rows.specs.declared.Sheet.{Sheet as NormalForm}
use Rattle.placing.specs.Net.{Normal}
use Rattle.placing.specs.Placing.{link_target}
use Rattle.placing.proofs.FirstLaws.{both_ways}
use Rattle.network.specs.Begun.{Begun}
use Rattle.network.specs.NetIn.{net_in, Fit}
use Rattle.network.proofs.NetIn.{mark-in}
use Rattle.candidates.specs.Sets.{Decided, by-mark, Keeps}
use Rattle.candidates.specs.Marks.{MarksIn, lost_at, MarkLost}
use Rattle.candidates.specs.Tables.{NoLink, MayAtom, MayLink}
use Rattle.candidates.proofs.Halves.{in_pair, pair-in, none-in-pair}
use Rattle.candidates.proofs.Sending.{link-place}

module _ (sheet figure : NormalForm) (fs : Fit sheet) (ff : Fit figure) (NS : Normal (net_in sheet)) (NF : Normal (net_in figure)) (pre : List ℕ) (a l : List ℕ) (h : Keeps (net_in sheet) (net_in figure) pre (MayAtom a) (MayLink l)) where
  link-hopeless : (x : ℕ) → NoLink l (x - 1) → (s : Begun (net_in sheet) (net_in figure) pre) → Decided (net_in figure) x → ⊥
  link-hopeless x none s d = none (link_target s.0 x - 1) (omega (arith, link-place sheet figure fs ff NS NF s.0 s.1 x d, fs.class-count)) ((h s.0 s.1 s.2).links x d)

  mark-hopeless : (q : ℕ) → q < figure.mark_count → NoLink l (get_or figure.marked q 0 - 1) → ¬ Begun (net_in sheet) (net_in figure) pre
  mark-hopeless q r none s = link-hopeless (get_or figure.marked q 0) none s (by-mark (get_or figure.marks q 0) (mark-in figure ff q r))

  pub lost-hopeless : (marks marked : List ℕ) (m : ℕ) → MarksIn figure marks marked m → MarkLost marked m l → ¬ Begun (net_in sheet) (net_in figure) pre
  lost-hopeless marks marked m o f =
      mark-hopeless f.0 (omega (arith, f.1, o.count))
      (subst (λ (w : List ℕ). NoLink l (get_or w f.0 0 - 1)) (sym o.same-marked) (λ y b i. none-in-pair _ f.2 y (in_pair b) (pair-in l (get_or marked f.0 0 - 1) y b i)))

-- one more mark that is not lost
pub none-lost : (marked links : List ℕ) (p : ℕ) → ¬ MarkLost marked p links → lost_at marked links p ≡ false → ¬ MarkLost marked (p + 1) links
none-lost marked links p n e f = go (ℕ_discrete f.0 p)
  where
    go : Dec (f.0 ≡ p) → ⊥
    go (yes w) = both_ways f.2 (ap (lost_at marked links) w ∙ e)
    go (no d) = n (f.0, omega (arith, f.1, d), f.2)
