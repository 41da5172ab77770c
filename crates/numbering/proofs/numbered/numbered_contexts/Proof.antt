-- Invariant: with the classes of the contexts that are left, all are numbered, and the first i contexts have their numbers.
use borrow.Author.Rules.{rules}
use Prim.Native.Nat.{ℕ, ◌≤◌, ◌<◌, ◌+◌, ◌*◌, ◌-◌}
use mathlib.Core.Path.{◌≡◌, refl, sym, ◌∙◌, ap}
use mathlib.Core.List.{List, []}
use native.Mathlib.Omega.{arith}
use lib.ListN.{length, take, drop, get_or}
use Rattle.rows.specs.Format.{most_links}
use Rattle.rows.specs.Limits.{context_room}
use Rattle.rows.specs.declared.Context.{Context}
use Rattle.rows.proofs.Lists.{mapped}
use Rattle.numbering.specs.Numbering.{numbering, label_in, with_classes, link_labels, context_labels, context_numbered}
use Rattle.numbering.proofs.Turns.{unmapped, with-links-count, contexts-next, contexts-end}
use Rattle.numbering.proofs.Kept.{pass_same, pass-put}
use Rattle.numbering.proofs.numbered.numbered_contexts.Statement.{statement}
use Rattle.numbering.proofs.numbered.numbered_contexts.Tie as tie

-- past an array's end the logic reads this
abbrev none : Context
none = record { number = 0; count = 0; links = []; row = 0 }

abbrev linked : Context → List ℕ → Context
linked a w = record { number = a.number; count = a.count; links = w; row = a.row }

abbrev invariant-loop : tie.invariant-loop-i
invariant-loop numbers₀ count₀ links classes n context-count hints contexts₀ i₀ numbers count contexts i = (i ≤ context-count) × (length contexts₀ ≡ context_room) × (count ≤ count₀ + most_links * i)
    × (with_classes (numbering numbers count) (context_labels (label_in links classes n) (drop i (take context-count contexts₀))) ≡ with_classes (numbering numbers₀ count₀) (context_labels (label_in links classes n) (take context-count contexts₀)))
    × ((later : List ℕ) → contexts ≡ mapped (context_numbered (with_classes (with_classes (numbering numbers₀ count₀) (context_labels (label_in links classes n) (take context-count contexts₀))) later).numbers (label_in links classes n)) i contexts₀)

abbrev decreases-loop : tie.decreases-loop-i
decreases-loop numbers₀ count₀ links classes n context-count hints contexts₀ i₀ numbers count contexts i = context-count - i

loop-holds : tie.Need-loop-i-init invariant-loop decreases-loop
loop-holds c = (search rules, search (rules, unmapped), search rules, refl, λ later. refl)

mul-context : tie.Need-offset_bounds-contexts-i invariant-loop decreases-loop
mul-context c = search rules

array-copy-out-context : tie.Need-bounds-contexts-i invariant-loop decreases-loop
array-copy-out-context c = search rules

cast-number-links : tie.Need-overflow_cast-context invariant-loop decreases-loop
cast-number-links c = search rules

number-links-requires : tie.Need-number_links-port_numbers-requires invariant-loop decreases-loop
number-links-requires c κs = let l = c in
    let s = l in
    let a = s.args in
    let f = label_in a.links.now a.classes.now a.n in
    let v = l.loop-i in
    let all = with_classes (numbering a.numbers.now a.count.now) (context_labels f (take a.context_count a.contexts)) in
    let e = pass_same none (λ b. b.count) (λ b. b.links) linked f all a.contexts v.contexts v.i (omega (arith, v.invariant.1, s.requires.0.1)) v.invariant.4 in
    let few : (get_or v.contexts v.i none).count ≤ most_links = rw e (s.requires.1 v.i) in
    (s.requires.0.0, few, omega (arith, v.invariant.2, s.requires.0.2))

mul-contexts : tie.Need-offset_bounds-contexts-i-in-loop-i invariant-loop decreases-loop
mul-contexts c = search rules

array-set-from-contexts : tie.Need-bounds-contexts-i-in-loop-i invariant-loop decreases-loop
array-set-from-contexts c = search rules

add-i : tie.Need-overflow_add-i invariant-loop decreases-loop
add-i c = search rules

loop-less : tie.Need-loop-i-smaller invariant-loop decreases-loop
loop-less c = search rules

loop-again : tie.Need-loop-i-preserved invariant-loop decreases-loop
loop-again c = let l = c in
    let t = c.loop-i-test.true in
    let s = l in
    let a = s.args in
    let f = label_in a.links.now a.classes.now a.n in
    let v = l.loop-i in
    let p = c.number_links-port_numbers in
    let n = numbering v.numbers v.count in
    let n' = numbering p.new.numbers p.new.count in
    let all = with_classes (numbering a.numbers.now a.count.now) (context_labels f (take a.context_count a.contexts)) in
    let rest = context_labels f (drop (v.i + 1) (take a.context_count a.contexts)) in
    let h : v.i < length a.contexts = omega (arith, v.invariant.1, s.requires.0.1) in
    let b = get_or a.contexts v.i none in
    let e = pass_same none (λ b. b.count) (λ b. b.links) linked f all a.contexts v.contexts v.i h v.invariant.4 in
    let next : n' ≡ with_classes n (link_labels f b.count b.links) = rw e at p.ensures.0 in
    let left : with_classes n' rest ≡ all = rw next (sym (contexts-next f a.contexts a.context_count v.i n none (omega (arith, v.invariant.1, s.requires.0.1)) (omega arith)) ∙ v.invariant.3) in (
      search rules,
      v.invariant.1,
      omega (arith, v.invariant.2, ap (λ m. m.count) next, with-links-count n f b.count b.links, s.requires.1 v.i),
      left,
      pass-put none (λ b. b.count) (λ b. b.links) linked f all a.contexts v.contexts v.i h v.invariant.4 n' rest p.result left p.ensures.1,
    )

returns : tie.Need-returns invariant-loop decreases-loop
returns c = let l = c in
    let a = l.args in
    let v = l.loop-i in
    let f = label_in a.links.now a.classes.now a.n in
    let e : v.i ≡ a.context_count = omega arith in
    let d : numbering v.numbers v.count ≡ with_classes (numbering a.numbers.now a.count.now) (context_labels f (take a.context_count a.contexts))
    = sym (contexts-end f a.contexts a.context_count v.i (numbering v.numbers v.count) (omega arith)) ∙ v.invariant.3 in
    (d, (omega (arith, v.invariant.2), λ later. rw d (rw e at (v.invariant.4 later))))

pub numbered_contexts_spec : {M : Type 1} → statement M
numbered_contexts_spec =
    tie.close
    (tie.spec
    invariant-loop
    decreases-loop
    loop-holds
    mul-context
    array-copy-out-context
    cast-number-links
    number-links-requires
    mul-contexts
    array-set-from-contexts
    add-i
    loop-less
    loop-again
    returns)
