-- The normal nets of texts that were read: a sheet has no blanks, the blanks of a pattern have different numbers from 1.
use Prim.Native.Nat.{ℕ, suc, ◌+◌, ◌≤◌, ◌<◌}
use mathlib.Core.Path.{◌≡◌, refl, ap, ap₂, sym, ◌∙◌, subst}
use mathlib.Core.Logic.{◌⊎◌, inl, inr, ◌≢◌}
use mathlib.Core.Bool.{Bool, true, false, true≢false}
use mathlib.Core.List.Memᴰ
use mathlib.Core.List.{List, [], ◌∷◌, ◌++◌, map}
use native.Mathlib.Omega.{arith}
use borrow.Author.Tests.{eqb-true, eqb-false, eq-eqb, ne_eqb}
use lib.Dec.{eqb}
use lib.ListN.{length, get_or, take, length-map, length-take}
use Rattle.hyperlmntal.specs.Link.{◌∈◌}
use Rattle.hyperlmntal.specs.Hypergraph.{Node, inner}
use Rattle.rows.specs.Pick.{pick, not}
use Rattle.rows.specs.Held.{Held, context_of, with_row, with_atom, with_context, with_fusion_row, with_edge_row}
use Rattle.rows.specs.Packed.{ports_of}
use Rattle.rows.specs.Format.{row_width, context_letter, edge_letter, head_letter}
use Rattle.rows.specs.declared.Context.{Context}
use Rattle.rows.proofs.Bools.{not-false}
use Rattle.rows.proofs.RowRange.{good-letter}
use Rattle.linking.proofs.Wired.{row_by}
use Rattle.sheet.specs.Kinds.{is_list}
use Rattle.sheet.specs.Reading.{outcome_of, strange, clashes, clash_of}
use Rattle.sheet.specs.declared.kind.Kind.{Kind}
use Rattle.sheet.specs.declared.kind.Kind.TheVariants.{Plain, Pattern}
use Rattle.sheet.specs.HeldLimits.{Every, ContextRange}
use Rattle.sheet.proofs.read.Taken.{row_at, Taken, outcome-keeps}
use Rattle.sheet.proofs.read.HeldLimits.{head-list, held-within}
use Rattle.placing.specs.Net.{NetCell, normal_net, Apart, NormalSheet, NormalPattern, blank_of}
use Rattle.placing.specs.TextNets.{text_blank}
use Rattle.texts.proofs.NormalFits.{every-member}
use Rattle.placing.proofs.NormalNets.{context_numbers, link_number, normal-contexts, normal-net}

-- A sheet text holds no blanks.
plain-context : (contexts : List Context) → strange Plain contexts context_letter ≡ false → ⊥
unfolding strange
plain-context contexts e = true≢false e

head-nowhere : (kind : Kind) (given : List ℕ) (h : Held) (text : List ℕ) → Taken kind given h text → is_list kind ≡ false → edge_letter < (row_at text).letter → ⊥
head-nowhere kind given h text t l k =
    let e : (row_at text).letter ≡ head_letter = omega (arith, good-letter (take row_width text) t.good) in
    true≢false (sym (head-list kind h.contexts (rw e at t.allowed)) ∙ l)

pub sheet-contexts : (given text : List ℕ) → (outcome_of Plain given text).held.contexts ≡ []
unfolding with_atom with_fusion_row with_edge_row
sheet-contexts given text = outcome-keeps Plain given (λ h. h.contexts ≡ []) more text refl
  where
    more : (h : Held) (text : List ℕ) → Taken Plain given h text → h.contexts ≡ [] → (with_row h (row_at text)).contexts ≡ []
    more h text t e =
        row_by h (row_at text) (λ g. g.contexts ≡ []) (λ l. e) (λ l. absurd (plain-context h.contexts (rw l at t.allowed))) (λ l. e) (λ l. e)
        (λ l. absurd (head-nowhere Plain given h text t refl l))

pub sheet-normal : (given text : List ℕ) → NormalSheet (normal_net (outcome_of Plain given text).held)
sheet-normal given text =
    let h = (outcome_of Plain given text).held in
    record { normal = normal-net h; no-contexts = normal-contexts h ∙ ap (map (context_numbers (link_number h))) (sheet-contexts given text) }

-- The blanks of a pattern have different numbers.
abbrev Different : List Context → Type 0
Different [] = Unit {0}
Different (c ∷ l) = ((d : Context) → d ∈ l → c.number ≢ d.number) × Different l

different-more : (l : List Context) (c : Context) → Different l → ((d : Context) → d ∈ l → d.number ≢ c.number) → Different (l ++ (c ∷ []))
different-more [] c o h = (λ d m. absurd (Memᴰ.not-nil m), tt)
different-more (b ∷ l) c o h = (λ d m. at d (Memᴰ.append_cases l m), different-more l c o.1 (λ d m. h d (Memᴰ.tail m)))
  where
    last : (d : Context) → (d ≡ c) ⊎ (d ∈ []) → b.number ≢ d.number
    last d (inl e) q = h b (Memᴰ.head refl) (q ∙ ap (λ x. x.number) e)
    last d (inr k) q = Memᴰ.not-nil k

    at : (d : Context) → (d ∈ l) ⊎ (d ∈ (c ∷ [])) → b.number ≢ d.number
    at d (inl k) = o.0 d k
    at d (inr k) = last d (Memᴰ.cases_cons k)

none_before : (l : List Context) (k : ℕ) → ports_of l k ≡ 0 → (d : Context) → d ∈ l → d.number ≢ k
unfolding ports_of
none_before [] k e d m q = Memᴰ.not-nil m
none_before (c ∷ l) k e d m q = at (eqb c.number k) refl e (Memᴰ.cases_cons m) (λ e m. none_before l k e d m q)
  where
    at : (t : Bool) → eqb c.number k ≡ t → pick t (suc c.count) (ports_of l k) ≡ 0 → (d ≡ c) ⊎ (d ∈ l) → (ports_of l k ≡ 0 → d ∈ l → ⊥) → ⊥
    at true b e o f = absurd (omega arith)
    at false b e (inl p) f = eqb-false _ _ b (sym (ap (λ x. x.number) p) ∙ q)
    at false b e (inr m) f = f e m

pattern-clash : (given : List ℕ) (contexts : List Context) (text : List ℕ) → (row_at text).letter ≡ context_letter → clashes Pattern given contexts (row_at text) ≡ false → ports_of contexts (get_or (row_at text).nums 0 0) ≡ 0
unfolding clashes clash_of
pattern-clash given contexts text l e =
    let q : not (eqb (ports_of contexts (get_or (row_at text).nums 0 0)) 0) ≡ false = rw (ne_eqb (row_at text).letter head_letter (λ z. absurd (omega arith)), eq-eqb (row_at text).letter context_letter l) at e in
    eqb-true _ _ (not-false _ q)

pattern-different : (given text : List ℕ) → Different (outcome_of Pattern given text).held.contexts
unfolding with_atom with_context with_fusion_row with_edge_row
pattern-different given text = outcome-keeps Pattern given (λ h. Different h.contexts) more text tt
  where
    more : (h : Held) (text : List ℕ) → Taken Pattern given h text → Different h.contexts → Different (with_row h (row_at text)).contexts
    more h text t o =
        row_by h (row_at text) (λ g. Different g.contexts) (λ l. o)
        (λ l. different-more h.contexts (context_of (row_at text).nums (h.rows + 1)) o (none_before h.contexts (get_or (row_at text).nums 0 0) (pattern-clash given h.contexts text l t.agrees)))
        (λ l. o) (λ l. o) (λ l. absurd (head-nowhere Pattern given h text t refl l))

apart-numbers : (f : Node ℕ → ℕ) (l : List Context) → Different l → Apart (map (context_numbers f) l)
apart-numbers f [] o = tt
apart-numbers f (c ∷ l) o = (λ d m. at d (Memᴰ.of_map (context_numbers f) l m), apart-numbers f l o.1)
  where
    at : (d : NetCell) → (b : Context) × (b ∈ l) × (context_numbers f b ≡ d) → c.number ≢ d.0
    at d t q = o.0 t.0 t.1 (q ∙ sym (ap (λ x. x.0) t.2))

pub pattern-normal : (given text : List ℕ) → NormalPattern (normal_net (outcome_of Pattern given text).held)
pattern-normal given text =
    let h = (outcome_of Pattern given text).held in
    record { normal = normal-net h; from_one = from_one; different = subst Apart (sym (normal-contexts h)) (apart-numbers (link_number h) h.contexts (pattern-different given text)) }
  where
    g : Held
    g = (outcome_of Pattern given text).held

    from_one : (c : NetCell) → c ∈ (normal_net g).contexts → 1 ≤ c.0
    from_one c m =
        let t : (b : Context) × (b ∈ g.contexts) × (context_numbers (link_number g) b ≡ c) = Memᴰ.of_map (context_numbers (link_number g)) g.contexts (subst (λ l. c ∈ l) (normal-contexts g) m) in
        let r = every-member (ContextRange Pattern) g.contexts t.0 (held-within Pattern given text).ranges.contexts t.1 in
        let b : 1 ≤ t.0.number = r.number.0 in
        subst (λ n. 1 ≤ n) (ap (λ x. x.0) t.2) b

-- A normal text has the blanks of the text: their numbers and port counts.
pub text-blanks : (kind : Kind) (given text : List ℕ) → map blank_of (normal_net (outcome_of kind given text).held).contexts ≡ map text_blank (outcome_of kind given text).held.contexts
text-blanks kind given text =
    let h = (outcome_of kind given text).held in
    ap (map blank_of) (normal-contexts h) ∙ each h.contexts (held-within kind given text).ranges.contexts
  where
    f : Node ℕ → ℕ
    f = link_number (outcome_of kind given text).held

    count : (c : Context) → ContextRange kind c → length (map f (map inner (take c.count c.links))) ≡ c.count
    count c r =
        let a = length-map (map inner (take c.count c.links)) f in
        let b = length-map (take c.count c.links) inner in
        let d = length-take c.count c.links in
        let e = r.ports.width in
        let g = r.count in
        omega arith

    each : (l : List Context) → Every (ContextRange kind) l → map blank_of (map (context_numbers f) l) ≡ map text_blank l
    each [] r = refl
    each (c ∷ l) r = ap₂ ◌∷◌ (ap (λ n. (c.number, n)) (count c r.0)) (each l r.1)
