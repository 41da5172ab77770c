-- Figure links that go to one sheet link: where their steps lead from one half of the contexts to the other, a link stands on
-- both.
use Prim.Native.Nat.{ℕ}
use mathlib.Core.Path.{◌≡◌, refl, sym, ◌∙◌, ap}
use mathlib.Core.Logic.{◌≢◌}
use mathlib.Core.Bool.{Bool, true, false}
use Rattle.hyperlmntal.specs.Link.{◌∈◌}
use Rattle.hyperlmntal.proofs.TellApart.{some-dec}
use Rattle.rows.specs.Pick.{not}
use Rattle.placing.specs.Net.{NetCell, Net}
use Rattle.placing.specs.Placing.{Placing, At, Linked, here, step}
use Rattle.placing.proofs.FirstLaws.{both_ways}
use Rattle.completing.specs.Ways.{OnHalf, OnBoth}
use Rattle.completing.proofs.Decide.{dec-map, dec-and, member-dec}

half-dec : (b c : Bool) → Dec (c ≡ b)
half-dec true true = yes refl
half-dec true false = no (λ e. both_ways refl (sym e))
half-dec false true = no (λ e. both_ways refl e)
half-dec false false = yes refl

module _ (F : Net) (X : ℕ → Bool) where
  pub on-half-dec : (b : Bool) (x : ℕ) → Dec (OnHalf F X b x)
  on-half-dec b x = dec-map
      (λ t. (t.0.0, record { row = t.0; of-figure = t.1; port = t.2.0; number = refl }, t.2.1))
      (λ t. (t.1.row, t.1.of-figure, (t.1.port, ap X t.1.number ∙ t.2)))
      (some-dec (λ (row : NetCell). (x ∈ row.1) × (X row.0 ≡ b)) (λ row. dec-and (member-dec x row.1) (half-dec b (X row.0))) F.contexts)

  row-half : (b : Bool) (x : ℕ) (row : NetCell) → row ∈ F.contexts → x ∈ row.1 → X row.0 ≡ b → OnHalf F X b x
  row-half b x row i m e = (row.0, record { row = row; of-figure = i; port = m; number = refl }, e)

  on_both : (b : Bool) (x : ℕ) → OnHalf F X b x → OnHalf F X (not b) x → OnBoth F X x
  on_both true x u v = (u, v)
  on_both false x u v = (v, u)

  -- a context with a link that is not on half b
  other_half : (b : Bool) (x : ℕ) (row : NetCell) → row ∈ F.contexts → x ∈ row.1 → ¬ OnHalf F X b x → X row.0 ≡ not b
  other_half b x row i m n = go b (X row.0) refl n
    where
      go : (d s : Bool) → X row.0 ≡ s → ¬ OnHalf F X d x → X row.0 ≡ not d
      go true true e k = absurd (k (row-half true x row i m e))
      go true false e k = e
      go false true e k = e
      go false false e k = absurd (k (row-half false x row i m e))

  module _ (S : Net) (p : Placing) where
    -- a link on both halves goes to y
    pub record Crossed (y : ℕ) : Type 0 where
      pub link : ℕ
      pub at : At S F p link y
      pub both : OnBoth F X link

    pub half-crossed : (b : Bool) (y z : ℕ) → OnHalf F X b z → (a : ℕ) → Linked S F p y a z → ¬ OnHalf F X b a → Crossed y
    half-crossed b y z o a here n = absurd (n o)
    half-crossed b y z o a (step {x' = d} s l) n = go (on-half-dec b d) (half-crossed b y z o d l)
      where
        go : Dec (OnHalf F X b d) → (¬ OnHalf F X b d → Crossed y) → Crossed y
        go (yes m) r = record {
          link = d;
          at = s.second_at;
          both = on_both b d m (row-half (not b) d s.row s.of-figure s.second (other_half b a s.row s.of-figure s.first n));
        }
        go (no m) r = r m

    -- the first of two different links that are linked stands on some half
    pub linked-half : (b : Bool) (y a z : ℕ) → Linked S F p y a z → a ≢ z → ¬ OnHalf F X b a → OnHalf F X (not b) a
    linked-half b y a z here n h = absurd (n refl)
    linked-half b y a z (step s l) n h = row-half (not b) a s.row s.of-figure s.first (other_half b a s.row s.of-figure s.first h)
