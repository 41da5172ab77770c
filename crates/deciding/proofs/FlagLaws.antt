-- The loops that set flags.
use Prim.Native.Nat.{ℕ, suc, ◌-◌, ◌≤◌, ◌<◌}
use mathlib.Core.Path.{◌≡◌, refl, sym, ◌∙◌, ap, subst}
use mathlib.Core.List.{List}
use mathlib.Core.Bool.{true}
use native.Mathlib.Omega.{arith}
use lib.ListN.{length, get_or, set, replicate, length-set, length-replicate}
use Rattle.rows.specs.Limits.{sheet_atom_limit, sheet_link_limit}
use Rattle.rows.proofs.Padding.{get_d-filled}
use Rattle.placing.specs.Net.{Range}
use Rattle.candidates.specs.Words.{pair_digits, InPair, PartOf, empty_pair, without_link}
use Rattle.candidates.proofs.Members.{Seen, part-self, part-less, seen_none, seen_more, seen_all}
use Rattle.deciding.specs.Flags.{Different, Opens}
use Rattle.deciding.specs.Kinds.{FlagsOf}
use Rattle.deciding.proofs.Sets.{set_cases}

-- a flag that no zero is
no_flag : {A : Type 0} (n x : ℕ) → ◌≡◌ {A = ℕ} (get_or (replicate n 0) x 0) 1 → A
no_flag n x e = absurd (omega (arith, get_d-filled {A = ℕ} 0 n x))

-- which atoms are taken
module _ (l : List ℕ) where
  pub different-start : (flags : List ℕ) → flags ≡ replicate sheet_atom_limit 0 → Different l 0 flags
  different-start flags e = record {
    room = ap length e ∙ length-replicate {A = ℕ} sheet_atom_limit 0;
    apart = λ i j h k f. absurd (omega arith);
    flag-of = λ i h. absurd (omega arith);
    of-flag = λ j f. no_flag sheet_atom_limit j (ap (λ (k : List ℕ). get_or k j 0) (sym e) ∙ f);
  }

  module _ (n : ℕ) (flags : List ℕ) (d : Different l n flags) (r : Range sheet_atom_limit (get_or l n 0)) where
    abbrev t : ℕ
    t = get_or l n 0 - 1

    number : get_or l n 0 ≡ suc t
    number = omega (arith, r.0)

-- the links of a set that are not left have a flag, and no other has
pub record Flagging (ports rest flags : List ℕ) : Type 0 where
  pub part : PartOf rest ports
  pub room : length flags ≡ sheet_link_limit
  pub small : (x : ℕ) → get_or flags x 0 ≤ 1
  pub seen : Seen (λ x. get_or flags x 0 ≡ 1) ports rest
  pub of-flag : (x : ℕ) → get_or flags x 0 ≡ 1 → InPair ports x

module _ (ports : List ℕ) where
  pub flagging-start : (flags : List ℕ) → flags ≡ replicate sheet_link_limit 0 → Flagging ports ports flags
  flagging-start flags e = record {
    part = part-self ports;
    room = ap length e ∙ length-replicate {A = ℕ} sheet_link_limit 0;
    small = λ x. omega (arith, ap (λ (k : List ℕ). get_or k x 0) e, get_d-filled {A = ℕ} 0 sheet_link_limit x);
    seen = seen_none (λ x. get_or flags x 0 ≡ 1) ports;
    of-flag = λ x f. no_flag sheet_link_limit x (ap (λ (k : List ℕ). get_or k x 0) (sym e) ∙ f);
  }

  pub flagging-next : (rest flags : List ℕ) → Flagging ports rest flags → (x : ℕ) → x < pair_digits → x < sheet_link_limit → InPair rest x → (less : List ℕ) → less ≡ without_link rest x → Flagging ports less (set flags x 1)
  flagging-next rest flags f x small h i less e = record {
    part = part-less ports rest x small less e f.part;
    room = length-set flags x 1 ∙ f.room;
    small = λ z. set_cases (λ (v : ℕ). v ≤ 1) flags x 1 z fits (λ w. omega arith) (λ w. f.small z);
    seen = seen_more ports rest x small less e (λ z. get_or flags z 0 ≡ 1) (λ z. get_or (set flags x 1) z 0 ≡ 1) f.seen
        (λ z l m q. set_cases (λ (v : ℕ). v ≡ 1) flags x 1 z fits (λ w. refl) (λ w. q)) (set_cases (λ (v : ℕ). v ≡ 1) flags x 1 x fits (λ w. refl) (λ w. absurd (w refl)));
    of-flag = λ z. set_cases (λ (v : ℕ). v ≡ 1 → InPair ports z) flags x 1 z fits (λ w q. subst (InPair ports) (sym w) (f.part x small i)) (λ w q. f.of-flag z q);
  }
    where
      fits : x < length flags
      fits = omega (arith, h, f.room)

  pub flagging-end : (rest flags : List ℕ) → empty_pair rest ≡ true → Flagging ports rest flags → FlagsOf ports flags
  flagging-end rest flags e f = record { room = f.room; small = f.small; flag-of = seen_all (λ x. get_or flags x 0 ≡ 1) ports rest e f.seen; of-flag = f.of-flag }

-- which links are open: those up to n are done
pub record Opening (l : List ℕ) (none n : ℕ) (to flags : List ℕ) : Type 0 where
  pub opens : Opens l none n to flags
  pub rest : (z : ℕ) → n ≤ z → (get_or to z 0 ≡ get_or l z 0) × (get_or flags z 0 ≡ 0)

module _ (l : List ℕ) (none : ℕ) (room : length l ≡ sheet_link_limit) where
  pub opening-start : (flags : List ℕ) → flags ≡ replicate sheet_link_limit 0 → Opening l none 0 l flags
  opening-start flags e = record {
    opens = record { to_room = room; flags-room = ap length e ∙ length-replicate {A = ℕ} sheet_link_limit 0; kept = λ x h n. absurd (omega arith); opened = λ x h n. absurd (omega arith) };
    rest = λ z h. (refl, ap (λ (k : List ℕ). get_or k z 0) e ∙ get_d-filled {A = ℕ} 0 sheet_link_limit z);
  }
