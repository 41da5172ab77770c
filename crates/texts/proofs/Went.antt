-- Reading on: what a text adds to what is held, one text after another, and one row that is read back.
use Prim.Native.Nat.{ℕ, suc, ◌+◌, ◌<◌, ◌≤◌}
use mathlib.Core.Path.{◌≡◌, refl, sym, ap, ap₂, ◌∙◌}
use mathlib.Core.List.{List, [], ◌++◌, append-nil, append_assoc}
use mathlib.Core.Bool.{true, false}
use native.Mathlib.Omega.{arith}
use lib.ListN.{length}
use Rattle.rows.specs.Limits.{row_limit, figure_contexts, sheet_marks}
use Rattle.rows.specs.Row.{row_with, row_of}
use Rattle.writing.specs.RowText.{row_bytes}
use Rattle.rows.specs.Held.{Held, with_row}
use Rattle.rows.specs.declared.Atom.{Atom}
use Rattle.rows.specs.declared.Context.{Context}
use Rattle.rows.specs.declared.row.Row.{Row}
use Rattle.sheet.specs.Kinds.{atom_limit, link_limit}
use Rattle.sheet.specs.Reading.{strange, clashes, read_from}
use Rattle.sheet.specs.declared.kind.Kind.{Kind}
use Rattle.sheet.proofs.read.Taken.{row_at, Taken, read_taken}
use Rattle.texts.proofs.RowBack.{row_first, row-after, row-whole}

module _ (kind : Kind) (pattern : List ℕ) where
  -- Reading a text leads on from g to h, with so many rows, and these atoms and contexts more.
  pub record Went (g h : Held) (k : ℕ) (text : List ℕ) (A : List Atom) (B : List Context) : Type 0 where
    pub read : (m n : ℕ) (rest : List ℕ) → m ≡ k + n → read_from m kind pattern g (text ++ rest) ≡ read_from n kind pattern h rest
    pub rows : h.rows ≡ g.rows + k
    pub atoms : h.atoms ≡ g.atoms ++ A
    pub contexts : h.contexts ≡ g.contexts ++ B

  pub went-none : (g : Held) → Went g g 0 [] [] []
  went-none g =
      record {
        read = λ m n rest e. let q : m ≡ n = omega arith in rw q;
        rows = omega arith;
        atoms = sym (append-nil g.atoms);
        contexts = sym (append-nil g.contexts);
      }

  pub went_then : (f g h : Held) (j k n : ℕ) (s t : List ℕ) (ls bs : List Atom) (cs ds : List Context) → n ≡ j + k
      → Went f g j s ls cs → Went g h k t bs ds → Went f h n (s ++ t) (ls ++ bs) (cs ++ ds)
  went_then f g h j k n s t ls bs cs ds q v w =
      record {
        read = λ m i rest e. rw (append_assoc s t rest) (v.read m (k + i) (t ++ rest) (omega arith) ∙ w.read (k + i) i rest refl);
        rows = omega (arith, v.rows, w.rows);
        atoms = w.atoms ∙ rw v.atoms (append_assoc f.atoms ls bs);
        contexts = w.contexts ∙ rw v.contexts (append_assoc f.contexts cs ds);
      }

  -- A row that is read back is taken in.
  module _ (b letter : ℕ) (nums back : List ℕ) (same : row_of (row_bytes b nums) ≡ row_with letter true back) (g : Held) (room : g.rows < row_limit) where
    abbrev r : Row
    r = row_with letter true back

    pub row_read : strange kind g.contexts letter ≡ false → length (with_row g r).atoms ≤ atom_limit kind → length (with_row g r).contexts ≤ figure_contexts
        → length (with_row g r).wiring.links ≤ link_limit kind → length (with_row g r).wiring.marks ≤ sheet_marks → clashes kind pattern g.contexts r ≡ false
        → (m n : ℕ) (rest : List ℕ) → m ≡ 1 + n → read_from m kind pattern g (row_bytes b nums ++ rest) ≡ read_from n kind pattern (with_row g r) rest
    row_read allowed atoms contexts links marks clash m n rest e =
        let q : m ≡ suc n = omega arith in
        let p : row_at (row_bytes b nums ++ rest) ≡ r = ap row_of (row_first b nums rest) ∙ same in
        let t : Taken kind pattern g (row_bytes b nums ++ rest) =
        record {
          rows = room;
          whole = row-whole b nums rest;
          allowed = rw p allowed;
          good = rw p;
          atoms = rw p atoms;
          contexts = rw p contexts;
          links = rw p links;
          marks = rw p marks;
          agrees = rw p clash;
        } in
        rw q (read_taken kind pattern g (row_bytes b nums ++ rest) n t ∙ ap₂ (read_from n kind pattern) (ap (with_row g) p) (row-after b nums rest))
