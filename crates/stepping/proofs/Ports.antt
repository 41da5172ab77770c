-- The table of ports, while the links of one set are looked at.
use Prim.Native.Nat.{ℕ, ◌+◌, ◌*◌, ◌-◌, ◌<◌}
use mathlib.Core.Path.{◌≡◌}
use mathlib.Core.Logic.{◌↔◌, ◌⊎◌, inl, inr, ◌≢◌, ⊎_elim}
use mathlib.Core.Bool.{true}
use mathlib.Core.List.{List}
use lib.ListN.{length, get_or, set}
use Rattle.rows.specs.Limits.{sheet_link_limit}
use Rattle.candidates.specs.Words.{pair_digits, InPair, PartOf, empty_pair, without_link}
use Rattle.candidates.proofs.Members.{Seen, part-self, part-less, seen_none, seen_more, seen_all}
use Rattle.stepping.specs.Flags.{IsAtPort, PortOfSet}
use Rattle.stepping.proofs.Tables.{store-flag}

module _ (to : List ℕ) (none : ℕ) (ports : List ℕ) (c : ℕ) (start : List ℕ) where
  -- what is flagged for link x
  abbrev FlaggedFor : List ℕ → ℕ → Type 0
  FlaggedFor table x = (p : ℕ) → IsAtPort to none c x p → get_or table p 0 ≡ 1

  -- the links that are not left are flagged, and nothing else is but what was
  pub record Noted (rest table : List ℕ) : Type 0 where
    pub part : PartOf rest ports
    pub only : (p : ℕ) → get_or table p 0 ≡ 1 → (get_or start p 0 ≡ 1) ⊎ PortOfSet to none ports c p
    pub kept : (p : ℕ) → get_or start p 0 ≡ 1 → get_or table p 0 ≡ 1
    pub seen : Seen (FlaggedFor table) ports rest

  pub noted-none : Noted ports start
  noted-none = record { part = part-self ports; only = λ p e. inl e; kept = λ p e. e; seen = seen_none (FlaggedFor start) ports }

  pub noted-all : (rest table : List ℕ) → empty_pair rest ≡ true → Noted rest table → (p : ℕ) → (get_or table p 0 ≡ 1) ↔ ((get_or start p 0 ≡ 1) ⊎ PortOfSet to none ports c p)
  noted-all rest table e n p = (n.only p, ⊎_elim (n.kept p) (λ t. seen_all (FlaggedFor table) ports rest e n.seen t.0 t.1 t.2 p t.3))

  module _ (rest table : List ℕ) (n : Noted rest table) (x : ℕ) (small : x < pair_digits) (there : InPair rest x) (less : List ℕ) (e : less ≡ without_link rest x) where
    -- link x goes nowhere
    pub noted-skip : get_or to x 0 ≡ none → Noted less table
    noted-skip q = record {
      part = part-less ports rest x small less e n.part;
      only = n.only;
      kept = n.kept;
      seen = seen_more ports rest x small less e (FlaggedFor table) (FlaggedFor table) n.seen (λ z h i f. f) (λ p t. absurd (t.0 q));
    }

    -- its place is flagged
    pub noted-put : get_or to x 0 ≢ none → c * sheet_link_limit + (get_or to x 0 - 1) < length table → Noted less (set table (c * sheet_link_limit + (get_or to x 0 - 1)) 1)
    noted-put q room = record {
      part = part-less ports rest x small less e n.part;
      only = λ p f. ⊎_elim (n.only p) (λ w. inr (x, small, n.part x small there, (q, w))) ((store-flag table at room p).0 f);
      kept = λ p f. still p (n.kept p f);
      seen = seen_more ports rest x small less e (FlaggedFor table) (FlaggedFor (set table at 1)) n.seen (λ z h i f p t. still p (f p t)) (λ p t. (store-flag table at room p).1 (inr t.1));
    }
      where
        at : ℕ
        at = c * sheet_link_limit + (get_or to x 0 - 1)

        still : (p : ℕ) → get_or table p 0 ≡ 1 → get_or (set table at 1) p 0 ≡ 1
        still p f = (store-flag table at room p).1 (inl f)
