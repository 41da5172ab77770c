-- A list of fillings fits a slip: each sheet atom is given to one context at most.
use Prim.Native.Nat.{ℕ, zero, suc, ◌+◌, ◌*◌, ◌≤◌}
use mathlib.Core.Path.{◌≡◌, refl, ap, sym, ◌∙◌}
use mathlib.Core.List.Memᴰ
use mathlib.Core.List.{List, [], ◌∷◌}
use mathlib.Core.Bool.{Bool, true, false}
use mathlib.Core.Logic.{◌≢◌}
use native.Mathlib.Omega.{arith}
use borrow.Author.Tests.{eqb-true, ne_eqb}
use lib.Dec.{eqb, ltb}
use lib.ListN.{length, get_or, length-append}
use Rattle.hyperlmntal.specs.Link.{◌∈◌}
use Rattle.rows.specs.Pick.{pick}
use Rattle.rows.specs.Format.{most_links, row_width}
use Rattle.rows.specs.Limits.{sheet_atom_limit, figure_contexts}
use Rattle.normalising.specs.NormalText.{slip_length}
use Rattle.rows.specs.declared.Sheet as form
use Rattle.placing.specs.Net.{NetCell, Apart}
use Rattle.placing.specs.Fillings.{with_context, by_number}
use Rattle.network.specs.NetIn.{atom_in, atom_at}
use Rattle.listing.specs.Writing.{given_below, filling_bytes, list_bytes}
use Rattle.listing.proofs.Texts.{filling-length}

-- A sum over contexts is the same in any order.
abbrev weight : (NetCell → ℕ) → List NetCell → ℕ
weight w [] = 0
weight w (c ∷ l) = w c + weight w l

weight-with : (w : NetCell → ℕ) (c : NetCell) (l : List NetCell) → weight w (with_context c l) ≡ w c + weight w l
unfolding with_context
weight-with w c [] = refl
weight-with w c (d ∷ l) = go (ltb c.0 d.0) (weight-with w c l)
  where
    go : (t : Bool) → weight w (with_context c l) ≡ w c + weight w l → weight w (pick t (c ∷ d ∷ l) (d ∷ with_context c l)) ≡ w c + (w d + weight w l)
    go true ih = refl
    go false ih = omega arith

weight-by-number : (w : NetCell → ℕ) (l : List NetCell) → weight w (by_number l) ≡ weight w l
unfolding by_number
weight-by-number w [] = refl
weight-by-number w (c ∷ l) = weight-with w c (by_number l) ∙ ap (λ n. w c + n) (weight-by-number w l)

-- A number is that of one context at most.
abbrev hits : ℕ → List NetCell → ℕ
hits n l = weight (λ c. pick (eqb n c.0) 1 0) l

no_hit : (n : ℕ) (l : List NetCell) → ((d : NetCell) → d ∈ l → n ≢ d.0) → hits n l ≡ 0
no_hit n [] h = refl
no_hit n (c ∷ l) h = rw (ne_eqb n c.0 (h c (Memᴰ.head refl))) (omega (arith, no_hit n l (λ d m. h d (Memᴰ.tail m))))

one_hit : (n : ℕ) (l : List NetCell) → Apart l → hits n l ≤ 1
one_hit n [] o = omega arith
one_hit n (c ∷ l) o = go (eqb n c.0) refl (one_hit n l o.1)
  where
    go : (t : Bool) → eqb n c.0 ≡ t → hits n l ≤ 1 → pick t 1 0 + hits n l ≤ 1
    go true e ih = let q : n ≡ c.0 = eqb-true n c.0 e in omega (arith, no_hit n l (λ d m s. o.0 d m (sym q ∙ s)))
    go false e ih = omega arith

module _ (sheet : form.Sheet) (links given : List ℕ) where
  abbrev held : ℕ → NetCell → ℕ
  held i c = length (given_below sheet given c.0 i)

  held_next : (i : ℕ) (c : NetCell) → held (suc i) c ≡ held i c + pick (eqb (get_or given i 0) c.0) 1 0
  unfolding given_below
  held_next i c = length-append (given_below sheet given c.0 i) _ ∙ ap (λ n. held i c + n) (go (eqb (get_or given i 0) c.0))
    where
      go : (t : Bool) → length (pick t (atom_in (atom_at sheet i) ∷ []) []) ≡ pick t 1 0
      go true = refl
      go false = refl

  held_more : (i : ℕ) (l : List NetCell) → weight (held (suc i)) l ≡ weight (held i) l + hits (get_or given i 0) l
  held_more i [] = refl
  held_more i (c ∷ l) = omega (arith, held_next i c, held_more i l)

  held_none : (l : List NetCell) → weight (held 0) l ≡ 0
  unfolding given_below
  held_none [] = refl
  held_none (c ∷ l) = omega (arith, held_none l)

  held_all : (l : List NetCell) → Apart l → (i : ℕ) → weight (held i) l ≤ i
  held_all l o zero = omega (arith, held_none l)
  held_all l o (suc i) = omega (arith, held_more i l, one_hit (get_or given i 0) l o, held_all l o i)

  list-weight : (l : List NetCell) → length (list_bytes sheet links given l) ≡ weight (λ c. length (filling_bytes sheet links given c)) l
  unfolding list_bytes
  list-weight [] = refl
  list-weight (c ∷ l) = length-append (filling_bytes sheet links given c) (list_bytes sheet links given l) ∙ ap (λ n. length (filling_bytes sheet links given c) + n) (list-weight l)

  few-rows : (l : List NetCell) → ((c : NetCell) → c ∈ l → length c.1 ≤ most_links)
      → weight (λ c. length (filling_bytes sheet links given c)) l ≤ ((1 + most_links) * length l + weight (held sheet.atom_count) l) * row_width
  few-rows [] h = omega arith
  few-rows (c ∷ l) h = omega (arith, filling-length sheet links given c, h c (Memᴰ.head refl), few-rows l (λ d m. h d (Memᴰ.tail m)))

  pub list-room : (l : List NetCell) → Apart l → ((c : NetCell) → c ∈ l → length c.1 ≤ most_links) → length l ≤ figure_contexts → sheet.atom_count ≤ sheet_atom_limit
      → length (list_bytes sheet links given (by_number l)) ≤ slip_length
  list-room l o h few atoms =
      omega (arith, list-weight (by_number l), weight-by-number (λ c. length (filling_bytes sheet links given c)) l, few-rows l h, held_all l o sheet.atom_count)
