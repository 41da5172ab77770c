-- One filling: the links of its atoms and ports are numbered, then its rows are written with these numbers.
use Prim.Native.Nat.{ℕ, ◌+◌, ◌*◌, ◌<◌, ◌≤◌}
use mathlib.Core.Path.{◌≡◌, ap, ap₂, sym, ◌∙◌, subst}
use mathlib.Core.List.Memᴰ
use mathlib.Core.List.{List, [], ◌∷◌, ◌++◌, append_assoc}
use mathlib.Core.Logic.{◌⊎◌, inl, inr}
use native.Mathlib.Omega.{arith}
use lib.ListN.{length, get_or, take, length-map, length-append}
use Rattle.hyperlmntal.specs.Link.{◌∈◌}
use Rattle.rows.specs.Format.{most_links, row_width}
use Rattle.rows.specs.Limits.{sheet_link_limit}
use Rattle.rows.specs.Packed.{padded}
use Rattle.writing.specs.RowText.{row_bytes}
use Rattle.rows.specs.declared.Context.{Context}
use Rattle.rows.proofs.Lists.{get_d-mapped}
use Rattle.writing.proofs.RowBytes.{row-width, over, over-more}
use Rattle.numbering.specs.Numbering.{Numbering, number_room, no_numbers, with_classes}
use Rattle.numbering.proofs.Turns.{with-classes-append}
use Rattle.rows.specs.declared.Sheet as form
use Rattle.normalising.proofs.normal_text.NormalWritten.{mapped_at, taken-padded}
use Rattle.reading.proofs.normal.ClassNumbers.{classes-number}
use Rattle.placing.specs.Net.{NetCell, cell_links}
use Rattle.placing.proofs.Lists.{member-at, get_d_of}
use Rattle.network.specs.NetIn.{context_in, Used, Fit}
use Rattle.network.proofs.NetIn.{used-length, used-at}
use Rattle.listing.specs.Writing.{number_in, given_cells, stands_at, port_links, appearing, number_among, symbols_bytes, ports_bytes, filling_bytes}
use Rattle.listing.proofs.Atoms.{below-few, below-low}
use Rattle.listing.proofs.Texts.{symbols-length, symbols-agree, ports-agree, filling-length}

-- Three parts, each written after the one before.
pub three-put : (l one two new : List ℕ) (at : ℕ) (a b c : List ℕ) (j k : ℕ) → length a ≡ row_width → length b ≡ j → at + (row_width + j) ≤ length l
    → one ≡ over l at a row_width → two ≡ over one (at + row_width) b j → new ≡ over two (at + row_width + j) c k → new ≡ over l at (a ++ (b ++ c)) (row_width + j + k)
three-put l one two new at a b c j k p q room e f g =
    let first : two ≡ over l at (a ++ b) (row_width + j) = (rw e at f) ∙ over-more l at a row_width p (omega arith) b j in
    let m : length (a ++ b) ≡ row_width + j = length-append a b ∙ rw (p, q) in
    let z : at + row_width + j ≡ at + (row_width + j) = omega arith in
    (rw (z, first) at g) ∙ over-more l at (a ++ b) (row_width + j) m room c k ∙ rw (append_assoc a b c)

module _ (sheet : form.Sheet) (fit : Fit sheet) (links_to given : List ℕ) (c : Context) (u : Used sheet_link_limit c.count c.links) where
  abbrev cells : List NetCell
  cells = given_cells sheet given c.number

  abbrev stands : ℕ → ℕ
  stands = stands_at sheet.class_count links_to

  abbrev used : List ℕ
  used = take c.count c.links

  abbrev ports : List ℕ
  ports = port_links sheet links_to used

  pub few-cells : length (cell_links cells) ≤ most_links * sheet.atom_count
  few-cells = below-few sheet fit given c.number sheet.atom_count (omega arith)

  ports-count : length ports ≡ c.count
  ports-count = length-map used stands ∙ used-length sheet_link_limit c.count c.links u

  pub filling-size : length (filling_bytes sheet links_to given (context_in c)) ≡ row_width + length cells * row_width + c.count * row_width
  filling-size = omega (arith, filling-length sheet links_to given (context_in c), used-length sheet_link_limit c.count c.links u)

  module _ (low : (k : ℕ) → k < c.count → stands (get_or c.links k 0) < number_room) (p : List ℕ) (made : p ≡ padded most_links 0 ports) where
    pub ports-taken : take c.count p ≡ ports
    ports-taken = rw made (taken-padded most_links ports c.count ports-count)

    pub port-low : (k : ℕ) → k < c.count → get_or p k 0 < number_room
    port-low k h =
        rw (made, mapped_at stands most_links 0 used k 0 0 (omega (arith, used-length sheet_link_limit c.count c.links u)), used-at sheet_link_limit c.count c.links u k h) (low k h)

    in-ports : (x : ℕ) → x ∈ ports → x < number_room
    in-ports x m =
        let t = member-at ports x m in
        let h : t.0 < c.count = omega (arith, t.1, ports-count) in
        let e : stands (get_or c.links t.0 0) ≡ x
        = ap stands (sym (used-at sheet_link_limit c.count c.links u t.0 h)) ∙ sym (get_d-mapped stands used t.0 0 0 (omega (arith, used-length sheet_link_limit c.count c.links u))) ∙ get_d_of ports t.0 0 x t.2 in
        subst (λ y. y < number_room) e (low t.0 h)

    all-low : (x : ℕ) → x ∈ appearing cells ports → x < number_room
    all-low x m = at (Memᴰ.append_cases (cell_links cells) m)
      where
        at : (x ∈ cell_links cells) ⊎ (x ∈ ports) → x < number_room
        at (inl i) = below-low sheet fit given c.number sheet.atom_count (omega arith) x i
        at (inr i) = in-ports x i

    module _ (n : Numbering) (numbered : n ≡ with_classes (with_classes no_numbers (cell_links cells)) (take c.count p)) where
      table : n ≡ with_classes no_numbers (appearing cells ports)
      table = numbered ∙ ap (with_classes (with_classes no_numbers (cell_links cells))) ports-taken ∙ sym (with-classes-append no_numbers (cell_links cells) ports)

      pub agrees : (x : ℕ) → x ∈ appearing cells ports → number_in n.numbers x ≡ number_among (appearing cells ports) x
      agrees x m = rw table (classes-number (appearing cells ports) all-low x m)

      pub filling-rows : row_bytes 72 (c.number ∷ c.count ∷ []) ++ (symbols_bytes (number_in n.numbers) cells ++ ports_bytes (number_in n.numbers) 1 (take c.count p)) ≡ filling_bytes sheet links_to given (context_in c)
      unfolding filling_bytes
      filling-rows =
          ap₂ ◌++◌ (ap (λ k. row_bytes 72 (c.number ∷ k ∷ [])) (sym ports-count))
          (ap₂ ◌++◌ (symbols-agree (number_in n.numbers) (number_among (appearing cells ports)) cells (λ x m. agrees x (Memᴰ.append_left ports m)))
          (ap (ports_bytes (number_in n.numbers) 1) ports-taken ∙ ports-agree (number_in n.numbers) (number_among (appearing cells ports)) 1 ports (λ x m. agrees x (Memᴰ.append_right (cell_links cells) m))))

      -- The head, the S rows and the E rows are written: `new` is what stands there then.
      pub filling-put : (l one two new : List ℕ) (at : ℕ) → at + length (filling_bytes sheet links_to given (context_in c)) ≤ length l
          → one ≡ over l at (row_bytes 72 (c.number ∷ c.count ∷ [])) row_width
          → two ≡ over one (at + row_width) (symbols_bytes (number_in n.numbers) cells) (length cells * row_width)
          → new ≡ over two (at + row_width + length cells * row_width) (ports_bytes (number_in n.numbers) 1 (take c.count p)) (c.count * row_width)
          → new ≡ over l at (filling_bytes sheet links_to given (context_in c)) (length (filling_bytes sheet links_to given (context_in c)))
      filling-put l one two new at room e f g =
          three-put l one two new at (row_bytes 72 (c.number ∷ c.count ∷ [])) (symbols_bytes (number_in n.numbers) cells) (ports_bytes (number_in n.numbers) 1 (take c.count p)) (length cells * row_width) (c.count * row_width)
          (row-width 72 (c.number ∷ c.count ∷ [])) (symbols-length (number_in n.numbers) cells) (omega (arith, filling-size)) e f g
          ∙ rw (filling-rows, filling-size)
