-- The list of fillings: context by context in ascending order of numbers.
use Prim.Native.Nat.{ℕ, ◌+◌, ◌-◌, ◌<◌, ◌≤◌}
use mathlib.Core.Path.{◌≡◌, refl, ap, sym, ◌∙◌, subst}
use mathlib.Core.List.{List, [], ◌++◌}
use mathlib.Core.Bool.{Bool, true, false}
use native.Mathlib.Nat.{zero-add}
use native.Mathlib.Omega.{arith}
use borrow.Author.Tests.{ltb-false}
use lib.Dec.{ltb}
use lib.ListN.{length, get_or, take, drop, length-append, take-append-drop}
use lib.Seq.{take_all}
use Rattle.hyperlmntal.specs.Link.{◌∈◌}
use Rattle.rows.specs.Pick.{pick}
use Rattle.rows.specs.Format.{most_links}
use Rattle.rows.specs.Limits.{sheet_atom_limit, sheet_link_limit}
use Rattle.writing.proofs.RowBytes.{over, over-more}
use Rattle.numbering.specs.Numbering.{number_room}
use Rattle.normalising.specs.NormalText.{slip_length}
use Rattle.rows.specs.declared.Sheet as form
use Rattle.placing.specs.Net.{NetCell, Apart, Range}
use Rattle.placing.specs.Fillings.{by_number}
use Rattle.placing.proofs.Lists.{member-at, get_d_of}
use Rattle.placing.proofs.Orders.{by-number-out}
use Rattle.placing.proofs.Standing.{context-link}
use Rattle.network.specs.NetIn.{net_in, context_in, context_at, Used}
use Rattle.network.specs.Ready.{Ready, LinksIn}
use Rattle.network.proofs.NetIn.{contexts-length, used-length}
use Rattle.listing.specs.Writing.{Narrow, Columns, fillings_text, stands_at, filling_bytes, list_bytes}
use Rattle.listing.proofs.Given.{list-bytes}
use Rattle.listing.proofs.Texts.{list-append}
use Rattle.listing.proofs.Ranks.{by-number-length, context-at}
use Rattle.listing.proofs.Room.{list-room}
use Rattle.listing.proofs.Steps.{list-next}

-- A text with what stood behind it, and one part more.
pub text-put : (l new text more : List ℕ) (at : ℕ) → at ≡ length text → length text + length more ≤ length l
    → new ≡ over (text ++ drop (length text) l) at more (length more) → new ≡ (text ++ more) ++ drop (length (text ++ more)) l
text-put l new text more at p room e =
    let z : over l 0 text (length text) ≡ text ++ drop (length text) l = rw (zero-add (length text)) in
    let q : new ≡ over (over l 0 text (length text)) (0 + length text) more (length more) = rw (z, zero-add (length text)) (rw p at e) in
    let w : 0 + (length text + length more) ≡ length (text ++ more) = rw (length-append text more) (omega arith) in
    q ∙ over-more l 0 text (length text) refl (omega arith) more (length more) ∙ rw w

-- The text of the first i fillings.
abbrev pub text_to : form.Sheet → form.Sheet → List ℕ → List ℕ → ℕ → List ℕ
text_to sheet figure links_to given i = list_bytes sheet links_to given (take i (by_number (net_in figure).contexts))

module _ (sheet figure : form.Sheet) (ready : Ready sheet figure) (links_to given : List ℕ) (room : length given ≡ sheet_atom_limit) (apart : Apart (net_in figure).contexts) (columns : Columns sheet figure) where
  abbrev ordered : List NetCell
  ordered = by_number (net_in figure).contexts

  abbrev text : ℕ → List ℕ
  text i = text_to sheet figure links_to given i

  ordered-length : length ordered ≡ figure.context_count
  ordered-length = by-number-length (net_in figure).contexts ∙ contexts-length figure ready.figure-fit

  pub text-next : (i : ℕ) → i < figure.context_count → (d : NetCell) → d ≡ get_or ordered i (0, []) → text (i + 1) ≡ text i ++ filling_bytes sheet links_to given d
  text-next i h d e = rw e (list-next sheet links_to given ordered i (omega (arith, ordered-length)))

  few-ports : (c : NetCell) → c ∈ (net_in figure).contexts → length c.1 ≤ most_links
  few-ports c m =
      let t = member-at (net_in figure).contexts c m in
      let h : t.0 < figure.context_count = omega (arith, t.1, contexts-length figure ready.figure-fit) in
      let u = columns.ports t.0 h in
      let e : context_in (context_at figure t.0) ≡ c = sym (context-at figure.contexts figure.context_count (omega (arith, ready.figure-fit.context-count, ready.figure-fit.context-room)) t.0 h) ∙ get_d_of (net_in figure).contexts t.0 (0, []) c t.2 in
      subst (λ d. length d.1 ≤ most_links) e (omega (arith, used-length figure.class_count (context_at figure t.0).count (context_at figure t.0).links u, u.few))

  all_room : length (list_bytes sheet links_to given ordered) ≤ slip_length
  all_room =
      list-room sheet links_to given (net_in figure).contexts apart few-ports
      (omega (arith, contexts-length figure ready.figure-fit, ready.figure-fit.context-count)) ready.sheet-fit.atom-count

  pub text-room : (i : ℕ) → length (text i) ≤ slip_length
  text-room i =
      omega (
        arith,
        all_room,
        ap (λ l. length (list_bytes sheet links_to given l)) (take-append-drop i ordered),
        ap length (list-append sheet links_to given (take i ordered) (drop i ordered)),
        length-append (text i) (list_bytes sheet links_to given (drop i ordered)),
      )

  -- All of it.
  pub text-all : (atoms : List ℕ) (i : ℕ) → figure.context_count ≤ i → text i ≡ fillings_text sheet figure atoms links_to given
  text-all atoms i h =
      ap (list_bytes sheet links_to given) (take_all i ordered (omega (arith, ordered-length)))
      ∙ sym (list-bytes sheet figure ready.sheet-fit atoms links_to given room ordered (λ c m x k. context-link (net_in figure) ready.figure-normal c x (by-number-out (net_in figure).contexts c m) k))

-- Where the ports of a context stand.
module _ (sheet figure : form.Sheet) (ready : Ready sheet figure) (narrow : Narrow figure) (links_to : List ℕ) (to : LinksIn sheet figure links_to) (j : ℕ) (h : j < figure.context_count) where
  pub links-used : Used sheet_link_limit (context_at figure j).count (context_at figure j).links
  links-used =
      let u = narrow j h in
      record { few = u.few; width = u.width; numbered = λ k q. let r = u.numbered k q in (r.0, omega (arith, r.1, ready.figure-fit.class-count)) }

  pub stands-low : (k : ℕ) → k < (context_at figure j).count → stands_at sheet.class_count links_to (get_or (context_at figure j).links k 0) < number_room
  stands-low k q = go (ltb sheet.class_count (get_or links_to (x - 1) 0)) refl
    where
      x : ℕ
      x = get_or (context_at figure j).links k 0

      r : Range figure.class_count x
      r = (ready.figure-fit.contexts j h).numbered k q

      go : (t : Bool) → ltb sheet.class_count (get_or links_to (x - 1) 0) ≡ t → pick t (sheet.class_count + x) (get_or links_to (x - 1) 0) < number_room
      go true e = omega (arith, r.1, ready.sheet-fit.class-count, ready.figure-fit.class-count)
      go false e = omega (arith, ltb-false sheet.class_count (get_or links_to (x - 1) 0) e, ready.sheet-fit.class-count)
