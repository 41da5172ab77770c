-- Words in which the contexts of atoms lie, cut along the atoms on one link.
use Prim.Native.Nat.{ℕ, suc, ◌≤◌, ◌<◌}
use mathlib.Core.Path.{◌≡◌, sym, subst}
use mathlib.Core.Logic.{◌≢◌}
use mathlib.Core.List.{List}
use native.Mathlib.Decide.{ℕ_discrete}
use native.Mathlib.Omega.{arith}
use lib.Bits.{bit_and}
use lib.ListN.{length, get_or, set, replicate, get_or-replicate}
use lib.Seq.{get_or-set_same, get_or-set_other}
use Rattle.rows.specs.Limits.{sheet_atom_limit, sheet_link_limit}
use Rattle.placing.specs.Net.{Net}
use Rattle.candidates.specs.Words.{In}
use Rattle.candidates.proofs.Digits.{in_and}
use Rattle.completing.specs.Known.{Touches}
use Rattle.stepping.specs.Chains.{NodeOn, Chained}
use Rattle.stepping.proofs.Walking.{atom_of, node-touches}
use Rattle.stepping.specs.Standing.{context_digits}
use Rattle.remaining.specs.Joining.{all_contexts, closure_in}
use Rattle.remaining.specs.Allowing.{Allows, AllIn, Together, SharedAt, KeptBy}
use Rattle.remaining.proofs.JoinLaws.{all_in}

-- The nodes of a chain, one after the other.
module _ (S : Net) (n : ℕ) (chains : List ℕ) (c : Chained S n chains) where
  pub chain_first : (y : ℕ) → y < sheet_link_limit → get_or chains y 0 ≢ 0 → NodeOn S y (get_or chains y 0)
  chain_first y h e = (c.last y h).is e

  pub chain_next : (y v : ℕ) → v < n → NodeOn S y v → get_or chains v 0 ≢ 0 → NodeOn S y (get_or chains v 0)
  chain_next y v h o e = (c.next y v h o).is e

module _ (S : Net) (taken : List ℕ) (digits : ℕ → ℕ) where
  -- One word cut to another that has the atom's digit.
  pub allows-cut : (words : List ℕ) (y i word : ℕ) → i < length words → (i < length S.atoms) × Touches S (suc i) (suc y) → AllIn S taken digits y word
      → Allows S taken digits words → Allows S taken digits (set words i (bit_and (get_or words i 0) word))
  allows-cut words y i word h t all a = record { within = within }
    where
      w : ℕ
      w = bit_and (get_or words i 0) word

      within : (j : ℕ) → j < length S.atoms → get_or taken j 0 ≢ 1 → In (get_or (set words i w) j 0) (digits j)
      within j l f = by (ℕ_discrete j i)
        where
          by : Dec (j ≡ i) → In (get_or (set words i w) j 0) (digits j)
          by (yes e) = subst (λ (k : ℕ). k < length S.atoms → get_or taken k 0 ≢ 1 → In (get_or (set words i w) k 0) (digits k)) (sym e)
              (λ l' f'. subst (λ (s : ℕ). In s (digits i)) (sym (get_or-set_same words i w 0 h))
              (in_and (get_or words i 0) word (digits i) (a.within i l' f') (all i (record { is-atom = t.0; on = t.1; free = f' })))) l f
          by (no n) = subst (λ (s : ℕ). In s (digits j)) (sym (get_or-set_other words i j w 0 n)) (a.within j l f)

  -- At first all contexts are in each word.
  pub allows-start : ((j : ℕ) → digits j < context_digits) → (words : List ℕ) → words ≡ replicate sheet_atom_limit all_contexts → length S.atoms ≤ sheet_atom_limit → Allows S taken digits words
  allows-start small words e few = record { within = λ j h f. subst (λ (k : List ℕ). In (get_or k j 0) (digits j)) (sym e) (subst (λ (s : ℕ). In s (digits j)) (sym (get_or-replicate sheet_atom_limit j all_contexts 0 (omega (arith, h, few)))) (all_in (digits j) (small j))) }

  -- Where no figure link goes: the digits of all atoms are in what is shared.
  pub shared-all : (table used words : List ℕ) → Together S taken digits table used → Allows S taken digits words → (y : ℕ) → get_or used y 0 ≢ 1 → (r : ℕ) → SharedAt S taken words table y r
      → AllIn S taken digits y r
  shared-all table used words g a y n r s j o = s (digits j) (g.small j) (λ i p. g.all y n i (get_or words i 0) p (g.kept (get_or words i 0) (digits i) (g.small i) (a.within i p.is-atom p.free)) j o)

module _ (S : Net) (taken words table : List ℕ) (y : ℕ) where
  pub shared_start : SharedAt S taken words table y all_contexts
  shared_start t h f = all_in t h

  -- one atom more
  pub shared-next : (word v r : ℕ) → NodeOn S y v → SharedAt S taken words table y word → KeptBy word (get_or taken (atom_of v) 0) (closure_in table (get_or words (atom_of v) 0)) r → SharedAt S taken words table y r
  shared-next word v r o s k t h f = let u = node-touches S y v o in
      k.kept t (s t h f) (λ n. f (atom_of v) (record { is-atom = u.0; on = u.1; free = n }))
