-- What this crate is for, in one place.
use Prim.Native.Nat.{ℕ}
use mathlib.Core.Path.{◌≡◌}
use mathlib.Core.Logic.{◌↔◌}
use mathlib.Core.List.{List, map}
use Rattle.hyperlmntal.specs.Congruence.{◌≅◌, ≅-sym, ≅-trans}
use Rattle.hyperlmntal.specs.TermOf.{term_of}
use Rattle.rows.specs.Held.{Held}
use Rattle.reading.specs.Graph.{graph_of, term_of_text}
use Rattle.sheet.specs.Reading.{outcome_of, no_ports}
use Rattle.sheet.specs.declared.kind.Kind.TheVariants.{Plain, Pattern}
use Rattle.sheet.specs.declared.answer.Answer.TheVariants.{Passed}
use Rattle.placing.specs.Net.{Net, net_term, Normal, NormalSheet, NormalPattern, blank_of}
use Rattle.placing.specs.Placing.{Placing, Good}
use Rattle.placing.specs.Fillings.{Filling, Fits, fillings_of, normal_fillings_of, AllExactMarks}
use Rattle.placing.specs.Holding.{holding_term, holding}
use Rattle.placing.specs.Filled.{filled_normal}
use Rattle.placing.specs.TextNets.{text_blank, sheet_held, pattern_held, sheet_net, pattern_net}
use Rattle.placing.specs.Wrong.{SharedGood, DroppedGood, InnerGood, fillings_at_marks, fillings_somewhere}
use Rattle.placing.proofs.NormalTexts.{sheet-normal, pattern-normal, text-blanks}
use Rattle.placing.proofs.TextPlacing.{text-net, to-texts, from-texts}
use Rattle.placing.proofs.FilledText as FilledText
use Rattle.placing.proofs.NetPlacing as NetPlacing
use Rattle.placing.proofs.Sheets.{sheets-placing}
use Rattle.placing.proofs.Needed as Needed
use Rattle.placing.proofs.NeededFillings as NeededFillings

-- The fillings of a good placing fit, and the figure holding them is congruent to the sheet.
pub placing-fillings : (S F : Net) → NormalSheet S → NormalPattern F → (p : Placing) → Good S F p → Fits F (fillings_of S p F) × (holding F (fillings_of S p F) ≅ net_term S)
placing-fillings S F s f p g = NetPlacing.placing-fillings S F s f p g

-- So do the same fillings, each as normal text of its own.
pub placing-normal-fillings : (S F : Net) → NormalSheet S → NormalPattern F → (p : Placing) → Good S F p → Fits F (normal_fillings_of S p F) × (holding F (normal_fillings_of S p F) ≅ net_term S)
placing-normal-fillings S F s f p g = NetPlacing.placing-normal-fillings S F s f p g

-- Fillings of any size that fit, and with which the figure is congruent to the sheet, give a good placing. Here several blanks may
-- have one number.
pub fillings-placing : (S F : Net) → NormalSheet S → Normal F → (θ : List Filling) → Fits F θ → holding F θ ≅ net_term S → (p : Placing) × Good S F p
fillings-placing S F s f θ fit e = NetPlacing.fillings-placing S F s f θ fit e

-- Theorem D: a figure can be filled to a sheet exactly when some placing is good.
pub fillings-iff-placing : (S F : Net) → NormalSheet S → NormalPattern F → ((θ : List Filling) × Fits F θ × (holding F θ ≅ net_term S)) ↔ ((p : Placing) × Good S F p)
fillings-iff-placing S F s f = NetPlacing.fillings-iff-placing S F s f

-- Its conditions are needed. With one of the wrong notions of a good placing that document 01 names, as Wrong has them, theorem D
-- is false: two figure links share a sheet link with no blank between,
pub shared-needs : ¬ ((S F : Net) → NormalSheet S → NormalPattern F → ((θ : List Filling) × Fits F θ × (holding F θ ≅ net_term S)) ↔ ((p : Placing) × SharedGood S F p))
shared-needs = Needed.shared-needs

-- a sheet mark that touches no atom is dropped,
pub mark-needs : ¬ ((S F : Net) → NormalSheet S → NormalPattern F → ((θ : List Filling) × Fits F θ × (holding F θ ≅ net_term S)) ↔ ((p : Placing) × DroppedGood S F p))
mark-needs = Needed.mark-needs

-- the link between the atoms of two blanks is inner to one of them.
pub inner-needs : ¬ ((S F : Net) → NormalSheet S → NormalPattern F → ((θ : List Filling) × Fits F θ × (holding F θ ≅ net_term S)) ↔ ((p : Placing) × InnerGood S F p))
inner-needs = Needed.inner-needs

-- With one of the wrong fillings in place of the fillings of a placing, placing-fillings is false: where ports that go to one link
-- share it only if that has a mark, the figure is not turned into the sheet,
pub fusion-needs : ¬ ((S F : Net) → NormalSheet S → NormalPattern F → (p : Placing) → Good S F p → holding F (fillings_at_marks S p F) ≅ net_term S)
fusion-needs = NeededFillings.fusion-needs

-- and where a port that goes to none is left out with its mark, the fillings do not fit.
pub port-needs : ¬ ((S F : Net) → NormalSheet S → NormalPattern F → (p : Placing) → Good S F p → Fits F (fillings_somewhere S p F))
port-needs = NeededFillings.port-needs

-- The same for texts that passed. The normal net of a sheet that passed is a normal sheet, that of a pattern a normal pattern.
pub sheet-net : (text : List ℕ) → (outcome_of Plain no_ports text).answer ≡ Passed → NormalSheet (sheet_net text)
sheet-net text passed = sheet-normal no_ports text

pub pattern-net : (text : List ℕ) → (outcome_of Pattern no_ports text).answer ≡ Passed → NormalPattern (pattern_net text)
pattern-net text passed = pattern-normal no_ports text

-- The blanks of the pattern's normal net are those of the pattern: the same numbers and port counts, in the order of its B rows.
pub pattern-blanks : (text : List ℕ) → map blank_of (pattern_net text).contexts ≡ map text_blank (pattern_held text).contexts
pattern-blanks text = text-blanks Pattern no_ports text

-- The fillings of a good placing of the normal texts fit, and the pattern as delivered, holding them, is the same as the sheet as delivered.
pub text-placing-fillings : (sheet pattern : List ℕ) → (outcome_of Plain no_ports sheet).answer ≡ Passed → (outcome_of Pattern no_ports pattern).answer ≡ Passed
    → (p : Placing) → Good (sheet_net sheet) (pattern_net pattern) p
    → Fits (pattern_net pattern) (normal_fillings_of (sheet_net sheet) p (pattern_net pattern))
    × (holding_term (term_of_text (pattern_held pattern)) (normal_fillings_of (sheet_net sheet) p (pattern_net pattern)) ≅ term_of_text (sheet_held sheet))
text-placing-fillings sheet pattern a b p g =
    let S = sheet_net sheet in
    let F = pattern_net pattern in
    let t = placing-normal-fillings S F (sheet-net sheet a) (pattern-net pattern b) p g in
    (t.0, to-texts (sheet_held sheet) (pattern_held pattern) (normal_fillings_of S p F) t.0 t.1)

-- Theorem D for texts: somebody can write fillings of any size that turn the pattern into the sheet exactly when some placing is good.
pub text-fillings-iff-placing : (sheet pattern : List ℕ) → (outcome_of Plain no_ports sheet).answer ≡ Passed → (outcome_of Pattern no_ports pattern).answer ≡ Passed
    → ((θ : List Filling) × Fits (pattern_net pattern) θ × (holding_term (term_of_text (pattern_held pattern)) θ ≅ term_of_text (sheet_held sheet)))
    ↔ ((p : Placing) × Good (sheet_net sheet) (pattern_net pattern) p)
text-fillings-iff-placing sheet pattern a b = (
  λ t. fillings-placing (sheet_net sheet) (pattern_net pattern) (sheet-net sheet a) (pattern-net pattern b).normal t.0 t.1 (from-texts (sheet_held sheet) (pattern_held pattern) t.0 t.1 t.2),
  λ t. let u = text-placing-fillings sheet pattern a b t.0 t.1 in (normal_fillings_of (sheet_net sheet) t.0 (pattern_net pattern), u.0, u.1),
)

-- One sheet text that passed has a good placing in another exactly when the two are the same.
pub text-sheets-placing : (a b : List ℕ) → (outcome_of Plain no_ports a).answer ≡ Passed → (outcome_of Plain no_ports b).answer ≡ Passed
    → ((p : Placing) × Good (sheet_net a) (sheet_net b) p) ↔ (term_of_text (sheet_held b) ≅ term_of_text (sheet_held a))
text-sheets-placing a b s f =
    let t = sheets-placing (sheet_net a) (sheet_net b) (sheet-net a s) (sheet-net b f) in
    (λ g. ≅-trans (text-net (sheet_held b)) (≅-trans (t.0 g) (≅-sym (text-net (sheet_held a)))), λ e. t.1 (≅-trans (≅-sym (text-net (sheet_held b))) (≅-trans e (text-net (sheet_held a)))))

-- A filled figure, as normal text, is congruent to what graph substitution makes of the figure.
pub filled-text : (h : Held) (θ : List Filling) → AllExactMarks θ → term_of (filled_normal (graph_of h) θ) ≅ holding_term (term_of_text h) θ
filled-text h θ exact = FilledText.filled-text h θ exact
