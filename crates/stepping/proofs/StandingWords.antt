-- The words of contexts, made row by row.
use Prim.Native.Nat.{ℕ, suc, ◌+◌, ◌*◌, ◌%◌, ◌^◌, ◌<◌}
use mathlib.Core.Path.{◌≡◌, refl, sym, ◌∙◌, ap, subst}
use mathlib.Core.Logic.{◌⊎◌, inl, inr}
use mathlib.Core.List.{List}
use mathlib.Core.Bool.{true}
use native.Mathlib.Decide.{ℕ_discrete, dec_lt}
use native.Mathlib.Nat.{mod-lt}
use native.Mathlib.Omega.{arith}
use lib.Bits.{bit_or}
use lib.Pow.{shl_exact}
use lib.ListN.{length, get_or, set, replicate, length-set}
use lib.Seq.{get_or-set_same, get_or-set_other}
use Rattle.hyperlmntal.specs.Link.{◌∈◌}
use Rattle.rows.specs.Limits.{sheet_link_limit}
use Rattle.rows.specs.declared.Sheet as form
use Rattle.placing.specs.Net.{NetCell}
use Rattle.placing.proofs.Standing.{cell_in}
use Rattle.network.specs.NetIn.{context_in, context_at, net_in}
use Rattle.network.proofs.NetIn.{contexts-length, context-index, context-of}
use Rattle.candidates.specs.Words.{In, alone, pair_digits, InPair, PartOf, empty_pair, without_link}
use Rattle.candidates.specs.PortSets.{set_at, PortIn, ContextsIn}
use Rattle.candidates.specs.declared.ports.PortSet.{PortSet}
use Rattle.candidates.proofs.Digits.{none_in, in-or-left, in-or-right, or-in, alone-in, alone-only}
use Rattle.candidates.proofs.Members.{Seen, part-less, seen_more, seen_all}
use Rattle.completing.specs.Known.{Stands}
use Rattle.stepping.proofs.Tables.{zeros}
use Rattle.stepping.specs.Standing.{context_digits, digit_of, Standing, Marked, StandingTo}

-- a digit as the machine makes it
pub context-shifted : (k : ℕ) → 1 * 2 ^ (k % context_digits) % 2 ^ context_digits ≡ alone (digit_of k)
unfolding alone
context-shifted k = let h : k % context_digits < context_digits = mod-lt k (omega arith) in shl_exact {a = 1} 1 (k % context_digits) context_digits (omega arith) (omega (arith, h)) ∙ omega arith

-- A word while the links of one set are looked at.
module _ (was ports : List ℕ) (word : ℕ) where
  abbrev HasWord : List ℕ → ℕ → Type 0
  HasWord words x = (t : ℕ) → In word t → In (get_or words x 0) t

  -- the links that are not left have the word, and none has lost a digit
  pub record Marking (rest words : List ℕ) : Type 0 where
    pub part : PartOf rest ports
    pub room : length words ≡ sheet_link_limit
    pub kept : (x t : ℕ) → In (get_or was x 0) t → In (get_or words x 0) t
    pub seen : Seen (HasWord words) ports rest
    pub only : (x t : ℕ) → In (get_or words x 0) t → In (get_or was x 0) t ⊎ (InPair ports x × In word t)

  pub marking-end : (rest words : List ℕ) → empty_pair rest ≡ true → Marking rest words → Marked was ports word words
  marking-end rest words e m = record { room = m.room; kept = m.kept; joined = λ x h i. seen_all (HasWord words) ports rest e m.seen x h i; only = m.only }

  pub marking-next : (rest words : List ℕ) → Marking rest words → (x : ℕ) → x < pair_digits → x < sheet_link_limit → InPair rest x → (less : List ℕ) → less ≡ without_link rest x
      → Marking less (set words x (bit_or (get_or words x 0) word))
  marking-next rest words m x small h there less e = record {
    part = part-less ports rest x small less e m.part;
    room = length-set words x w ∙ m.room;
    kept = λ z t i. more z t (m.kept z t i);
    seen = seen_more ports rest x small less e (HasWord words) (HasWord (set words x w)) m.seen (λ z l i f t u. more z t (f t u))
        (λ t i. subst (λ (v : ℕ). In v t) (sym (get_or-set_same words x w 0 fits)) (in-or-right (get_or words x 0) word t i));
    only = only;
  }
    where
      w : ℕ
      w = bit_or (get_or words x 0) word

      fits : x < length words
      fits = omega (arith, m.room)

      more : (z t : ℕ) → In (get_or words z 0) t → In (get_or (set words x w) z 0) t
      more z t i = by (ℕ_discrete z x)
        where
          by : Dec (z ≡ x) → In (get_or (set words x w) z 0) t
          by (yes f) = subst (λ (v : ℕ). In (get_or (set words x w) v 0) t) (sym f)
              (subst (λ (v : ℕ). In v t) (sym (get_or-set_same words x w 0 fits)) (in-or-left (get_or words x 0) word t (subst (λ (v : ℕ). In (get_or words v 0) t) f i)))
          by (no f) = subst (λ (v : ℕ). In v t) (sym (get_or-set_other words x z w 0 f)) i

      only : (z t : ℕ) → In (get_or (set words x w) z 0) t → In (get_or was z 0) t ⊎ (InPair ports z × In word t)
      only z t i = by (ℕ_discrete z x)
        where
          here : In (get_or words x 0) t ⊎ In word t → In (get_or was x 0) t ⊎ (InPair ports x × In word t)
          here (inl j) = m.only x t j
          here (inr j) = inr (m.part x small there, j)

          by : Dec (z ≡ x) → In (get_or was z 0) t ⊎ (InPair ports z × In word t)
          by (yes f) = subst (λ (v : ℕ). In (get_or was v 0) t ⊎ (InPair ports v × In word t)) (sym f)
              (here (or-in (get_or words x 0) word t (subst (λ (v : ℕ). In v t) (ap (λ (v : ℕ). get_or (set words x w) v 0) f ∙ get_or-set_same words x w 0 fits) i)))
          by (no f) = m.only z t (subst (λ (v : ℕ). In v t) (get_or-set_other words x z w 0 f) i)

module _ (sets : List PortSet) where
  pub standing-start : StandingTo sets 0 (replicate sheet_link_limit 0)
  standing-start = record { room = refl; holds = λ i x h. absurd (omega (arith, h)); only = λ x t i. absurd (none_in t (subst (λ (v : ℕ). In v t) (zeros sheet_link_limit x) i)) }

  pub standing-next : (c : ℕ) (words r : List ℕ) (word : ℕ) → word ≡ alone (digit_of (set_at sets c).number) → StandingTo sets c words → Marked words (set_at sets c).links word r → StandingTo sets (c + 1) r
  standing-next c words r word e s m = record { room = m.room; holds = holds; only = λ x t i. from x t (m.only x t i) }
    where
      from : (x t : ℕ) → In (get_or words x 0) t ⊎ (PortIn sets c x × In word t) → (i : ℕ) × (i < c + 1) × PortIn sets i x × (t ≡ digit_of (set_at sets i).number)
      from x t (inl j) = let u = s.only x t j in (u.0, omega (arith, u.1), u.2, u.3)
      from x t (inr j) = (c, omega arith, j.0, alone-only (digit_of (set_at sets c).number) word e t j.1)

      holds : (i x : ℕ) → i < c + 1 → x < pair_digits → PortIn sets i x → In (get_or r x 0) (digit_of (set_at sets i).number)
      holds i x h l p = by (dec_lt i c)
        where
          by : Dec (i < c) → In (get_or r x 0) (digit_of (set_at sets i).number)
          by (yes u) = m.kept x (digit_of (set_at sets i).number) (s.holds i x u l p)
          by (no u) =
              let q : c ≡ i = omega (arith, h) in
              let P : ℕ → Type 0 = λ j. PortIn sets j x → In (get_or r x 0) (digit_of (set_at sets j).number) in
              subst P q (λ p'. m.joined x l p' (digit_of (set_at sets c).number) (alone-in (digit_of (set_at sets c).number) word e)) p

pub standing-end : (figure : form.Sheet) (sets : List PortSet) (rows links : ℕ) → ContextsIn figure sets rows links → (words : List ℕ) → StandingTo sets rows words → Standing figure words
standing-end figure sets rows links o words s = record { room = s.room; holds = λ x h k t. by x h k t (context-of figure o.fit t.row t.of-figure); only = λ x h t i. from x h t (s.only x t i) }
  where
    from : (x : ℕ) → x < figure.class_count → (t : ℕ) → (i : ℕ) × (i < rows) × PortIn sets i x × (t ≡ digit_of (set_at sets i).number) → (k : ℕ) × Stands (net_in figure) (suc x) k × (t ≡ digit_of k)
    from x h t (i, u, p, e) = (
      (set_at sets i).number,
      record {
        row = context_in (context_at figure i);
        of-figure = subst (λ (c : NetCell). c ∈ (net_in figure).contexts) (context-index figure o.fit i there) (cell_in (net_in figure).contexts (i + 1) (omega arith, let l = contexts-length figure o.fit in omega (arith, there)));
        port = ((o.each i u).ports x (omega (arith, h, o.fit.class-count))).0 p;
        number = sym (o.each i u).number;
      },
      e,
    )
      where
        there : i < figure.context_count
        there = omega (arith, u, o.row_count)

    by : (x : ℕ) → x < figure.class_count → (k : ℕ) → (t : Stands (net_in figure) (suc x) k) → (i : ℕ) × (i < figure.context_count) × (context_in (context_at figure i) ≡ t.row) → In (get_or words x 0) (digit_of k)
    by x h k t (i, l, e) =
        let u : i < rows = omega (arith, l, o.row_count) in
        let r = o.each i u in
        let small : x < pair_digits = omega (arith, h, o.fit.class-count) in
        let n : (set_at sets i).number ≡ k = r.number ∙ ap (λ (c : NetCell). c.0) e ∙ t.number in
        subst (λ (d : ℕ). In (get_or words x 0) (digit_of d)) n (s.holds i x u small ((r.ports x small).1 (subst (λ (c : NetCell). suc x ∈ c.1) (sym e) t.port)))
