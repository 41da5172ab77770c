-- A normal form, and the same with its atoms as they are laid out and its contexts by their sets, have the same good placings.
use Prim.Native.Nat.{ℕ, zero, suc, ◌+◌, ◌<◌}
use mathlib.Core.Path.{◌≡◌, refl, sym, subst, ◌∙◌, ap, ap₂}
use mathlib.Core.List.{List, []}
use native.Mathlib.Omega.{arith}
use lib.ListN.{length, take, get_or, length-map}
use lib.Seq.{length-take-le, get_or-take, ext_get_or}
use Rattle.rows.specs.Limits.{atom_room, context_room}
use Rattle.rows.specs.declared.Atom.{Atom}
use Rattle.rows.specs.declared.Context.{Context}
use Rattle.rows.specs.declared.Sheet.{Sheet as NormalForm}
use Rattle.rows.proofs.Lists.{get_d-mapped}
use Rattle.reading.proofs.normal.Merging.{get_d-in}
use Rattle.placing.specs.Net.{Range, Normal}
use Rattle.placing.specs.Smallest.{smallest}
use Rattle.network.specs.NetIn.{net_in, atom_at, Fit, Used, Numbered}
use Rattle.network.proofs.SamePorts.{SamePorts, with_contexts, normal-with, smallest-with}
use Rattle.candidates.specs.Laid.{laid_atom, LaidOut}
use Rattle.candidates.specs.Words.{pair_digits}
use Rattle.candidates.specs.PortSets.{set_at, SetOf, ContextsIn}
use Rattle.candidates.specs.Frames.{frame_with, FrameOf, laid_rows, links_from, row_of, whole}
use Rattle.candidates.specs.declared.ports.PortSet.{PortSet}
use Rattle.candidates.specs.declared.frame.Frame.{Frame}
use Rattle.candidates.proofs.PortRows.{from_in, row-set, port-range, same_rows}

rows-length : (l : List ℕ) (i n : ℕ) → length (laid_rows l i n) ≡ n
unfolding laid_rows
rows-length l i zero = refl
rows-length l i (suc n) = ap suc (rows-length l (suc i) n)

row_at : (l : List ℕ) (i n j : ℕ) (d : Atom) → j < n → get_or (laid_rows l i n) j d ≡ laid_atom l (i + j)
unfolding laid_rows
row_at l i zero j d h = absurd (omega arith)
row_at l i (suc n) zero d h = ap (laid_atom l) (omega arith)
row_at l i (suc n) (suc j) d h = row_at l (suc i) n j d (omega arith) ∙ ap (laid_atom l) (omega arith)

-- the contexts of a frame are those of the whole
pub whole-contexts : (f : Frame) (laid : List ℕ) → Fit (whole f laid) → ContextsIn (whole f laid) f.contexts f.context_count f.class_count
whole-contexts f laid fit = record {
  fit = fit;
  room = room;
  row_count = refl;
  link-count = refl;
  each = λ c h. subst (λ (r : Context). SetOf r (set_at f.contexts c)) (sym (get_d-mapped row_of f.contexts c _ _ (omega (arith, h, fit.context-count, room)))) (row-set (set_at f.contexts c));
}
  where
    room : length f.contexts ≡ context_room
    room = sym (length-map f.contexts row_of) ∙ fit.context-room

module _ (net : NormalForm) (laid : List ℕ) (o : LaidOut net laid net.atom_count) (sets : List PortSet) (c : ContextsIn net sets net.context_count net.class_count) where
  abbrev W : NormalForm
  W = whole (frame_with net sets) laid

  whole-at : (i : ℕ) → i < net.atom_count → atom_at W i ≡ atom_at net i
  whole-at i h = row_at laid 0 atom_room i _ (omega (arith, h, o.fit.atom-count)) ∙ (ap (laid_atom laid) (omega arith) ∙ o.atoms i h)

  same-atoms : take net.atom_count (laid_rows laid 0 atom_room) ≡ take net.atom_count net.atoms
  same-atoms =
      let n = net.atom_count in
      let a = length-take-le n (laid_rows laid 0 atom_room) (omega (arith, rows-length laid 0 atom_room, o.fit.atom-count)) in
      ext_get_or (record { name = 0; count = 0; links = [] }) _ _ (a ∙ sym (length-take-le n net.atoms (omega (arith, o.fit.atom-room, o.fit.atom-count))))
      (λ i h. let k : i < n = omega (arith, h, a) in get_or-take n _ i _ k ∙ (whole-at i k ∙ sym (get_or-take n net.atoms i _ k)))

  -- the links of a row that a set makes
  made-numbered : (i : ℕ) → i < net.context_count → Numbered net.class_count (row_of (set_at sets i)).count (row_of (set_at sets i)).links
  made-numbered i h =
      let pair = (set_at sets i).links in
      record {
        there = omega arith;
        numbered = λ k l.
            let t = from_in pair 0 pair_digits _ (get_d-in (links_from pair 0 pair_digits) k 0 l) in
            subst (Range net.class_count) (sym t.number) (port-range c i t.link h (omega (arith, t.below)) t.there);
      }

  fits : Fit W
  fits = let f = o.fit in
      record {
        atom-count = f.atom-count;
        context-count = f.context-count;
        mark-count = f.mark-count;
        class-count = f.class-count;
        atom-room = rows-length laid 0 atom_room;
        context-room = length-map sets row_of ∙ c.room;
        mark-room = f.mark-room;
        marked-room = f.marked-room;
        atoms = λ i h. subst (λ (a : Atom). Used net.class_count a.count a.links) (sym (whole-at i h)) (f.atoms i h);
        contexts = λ i h. subst (λ (r : Context). Numbered net.class_count r.count r.links) (sym (get_d-mapped row_of sets i _ _ (omega (arith, h, f.context-count, c.room)))) (made-numbered i h);
        marked = f.marked;
      }

  same-ports : SamePorts (net_in net).contexts (net_in W).contexts
  same-ports = let d = whole-contexts (frame_with net sets) laid fits in record { onward = same_rows c d; back = same_rows d c }

  net-with : net_in W ≡ with_contexts (net_in net) (net_in W).contexts
  net-with = rw same-atoms refl

-- one net, laid out
module _ (net : NormalForm) (laid : List ℕ) (o : LaidOut net laid net.atom_count) (f : Frame) (e : FrameOf net f) where
  pub whole-laid : LaidOut (whole f laid) laid f.atom_count
  whole-laid = rw e.is (record {
    count = refl;
    fit = fits net laid o e.sets e.contexts-in;
    normal = subst Normal (sym (net-with net laid o e.sets e.contexts-in)) (normal-with (net_in net) _ (same-ports net laid o e.sets e.contexts-in) o.normal);
    atoms = λ i h. o.atoms i h ∙ sym (whole-at net laid o e.sets e.contexts-in i h);
  })

-- a sheet and a figure
pub whole-smallest : (sheet figure : NormalForm) (laid parts : List ℕ) → LaidOut sheet laid sheet.atom_count → LaidOut figure parts figure.atom_count → (s f : Frame) → FrameOf sheet s → FrameOf figure f
    → smallest (net_in (whole s laid)) (net_in (whole f parts)) ≡ smallest (net_in sheet) (net_in figure)
whole-smallest sheet figure laid parts os of s f d e = rw (d.is, e.is) (
    ap₂ smallest (net-with sheet laid os d.sets d.contexts-in) (net-with figure parts of e.sets e.contexts-in)
    ∙ sym (smallest-with (net_in sheet) (net_in figure) _ _ (same-ports figure parts of e.sets e.contexts-in))
    )
