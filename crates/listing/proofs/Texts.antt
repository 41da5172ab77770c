-- The bytes of rows: how many they are, and one row more.
use Prim.Native.Nat.{ℕ, suc, ◌+◌, ◌*◌}
use mathlib.Core.Path.{◌≡◌, refl, ap, ap₂, sym, ◌∙◌}
use mathlib.Core.List.Memᴰ
use mathlib.Core.List.{List, [], ◌∷◌, ◌++◌, map, append_assoc, append-nil}
use native.Mathlib.Omega.{arith}
use lib.ListN.{length, length-append, length-map}
use Rattle.hyperlmntal.specs.Link.{◌∈◌}
use Rattle.hyperlmntal.proofs.Lists.{map-agree}
use Rattle.rows.specs.Format.{row_width}
use Rattle.writing.specs.RowText.{row_bytes}
use Rattle.writing.proofs.RowBytes.{row-width}
use Rattle.rows.specs.declared.Sheet as form
use Rattle.placing.specs.Net.{NetCell, cell_links}
use Rattle.listing.specs.Writing.{given_cells, stands_at, port_links, symbol_bytes, symbols_bytes, port_bytes, ports_bytes, filling_bytes, list_bytes}

pub symbols-append : (f : ℕ → ℕ) (a b : List NetCell) → symbols_bytes f (a ++ b) ≡ symbols_bytes f a ++ symbols_bytes f b
unfolding symbols_bytes
symbols-append f [] b = refl
symbols-append f (c ∷ a) b = ap (λ t. symbol_bytes f c ++ t) (symbols-append f a b) ∙ sym (append_assoc (symbol_bytes f c) (symbols_bytes f a) (symbols_bytes f b))

pub symbols-length : (f : ℕ → ℕ) (l : List NetCell) → length (symbols_bytes f l) ≡ length l * row_width
unfolding symbols_bytes
symbols-length f [] = refl
symbols-length f (c ∷ l) = omega (arith, length-append (symbol_bytes f c) (symbols_bytes f l), row-width 83 (c.0 ∷ length c.1 ∷ map f c.1), symbols-length f l)

pub ports-snoc : (f : ℕ → ℕ) (i : ℕ) (l : List ℕ) (x : ℕ) → ports_bytes f i (l ++ (x ∷ [])) ≡ ports_bytes f i l ++ port_bytes f (i + length l) x
unfolding ports_bytes
ports-snoc f i [] x = let a : i + 0 ≡ i = omega arith in rw a (append-nil (port_bytes f i x))
ports-snoc f i (y ∷ l) x =
    let a : suc i + length l ≡ i + suc (length l) = omega arith in
    rw (ports-snoc f (suc i) l x, a) (sym (append_assoc (port_bytes f i y) (ports_bytes f (suc i) l) (port_bytes f (i + suc (length l)) x)))

pub ports-length : (f : ℕ → ℕ) (i : ℕ) (l : List ℕ) → length (ports_bytes f i l) ≡ length l * row_width
unfolding ports_bytes
ports-length f i [] = refl
ports-length f i (x ∷ l) = omega (arith, length-append (port_bytes f i x) (ports_bytes f (suc i) l), row-width 69 (f x ∷ i ∷ []), ports-length f (suc i) l)

-- Numbers that are equal on the links that appear.
pub symbols-agree : (f g : ℕ → ℕ) (l : List NetCell) → ((x : ℕ) → x ∈ cell_links l → f x ≡ g x) → symbols_bytes f l ≡ symbols_bytes g l
unfolding symbols_bytes
symbols-agree f g [] h = refl
symbols-agree f g (c ∷ l) h =
    ap₂ ◌++◌ (ap (λ k. row_bytes 83 (c.0 ∷ length c.1 ∷ k)) (map-agree f g c.1 (λ x m. h x (Memᴰ.append_left (cell_links l) m))))
    (symbols-agree f g l (λ x m. h x (Memᴰ.append_right c.1 m)))

pub ports-agree : (f g : ℕ → ℕ) (i : ℕ) (l : List ℕ) → ((x : ℕ) → x ∈ l → f x ≡ g x) → ports_bytes f i l ≡ ports_bytes g i l
unfolding ports_bytes
ports-agree f g i [] h = refl
ports-agree f g i (x ∷ l) h =
    ap₂ ◌++◌ (ap (λ n. row_bytes 69 (n ∷ i ∷ [])) (h x (Memᴰ.head refl)))
    (ports-agree f g (suc i) l (λ y m. h y (Memᴰ.tail m)))

module _ (sheet : form.Sheet) (links given : List ℕ) where
  pub filling-length : (c : NetCell) → length (filling_bytes sheet links given c) ≡ (1 + length (given_cells sheet given c.0) + length c.1) * row_width
  unfolding filling_bytes
  filling-length c =
      let w : length (port_links sheet links c.1) ≡ length c.1 = length-map c.1 (stands_at sheet.class_count links) in
      simp (length-append, row-width, symbols-length, ports-length) (omega (arith))

  pub list-snoc : (l : List NetCell) (c : NetCell) → list_bytes sheet links given (l ++ (c ∷ [])) ≡ list_bytes sheet links given l ++ filling_bytes sheet links given c
  unfolding list_bytes
  list-snoc [] c = append-nil (filling_bytes sheet links given c)
  list-snoc (d ∷ l) c = ap (λ t. filling_bytes sheet links given d ++ t) (list-snoc l c) ∙ sym (append_assoc (filling_bytes sheet links given d) (list_bytes sheet links given l) (filling_bytes sheet links given c))

  pub list-append : (l m : List NetCell) → list_bytes sheet links given (l ++ m) ≡ list_bytes sheet links given l ++ list_bytes sheet links given m
  unfolding list_bytes
  list-append [] m = refl
  list-append (d ∷ l) m = ap (λ t. filling_bytes sheet links given d ++ t) (list-append l m) ∙ sym (append_assoc (filling_bytes sheet links given d) (list_bytes sheet links given l) (list_bytes sheet links given m))
