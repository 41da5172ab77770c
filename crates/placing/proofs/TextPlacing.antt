-- Theorem D for texts: the terms of the texts as delivered.
use mathlib.Core.Path.{sym, subst}
use mathlib.Core.List.{List}
use Rattle.hyperlmntal.specs.Congruence.{◌≅◌, ≅-sym, ≅-trans}
use Rattle.hyperlmntal.specs.TermOf.{term_of}
use Rattle.hyperlmntal.proofs.Theorems.{substitute-congruent}
use Rattle.rows.specs.Held.{Held}
use Rattle.reading.specs.Graph.{term_of_text}
use Rattle.texts.proofs.NormalIso.{text-normal}
use Rattle.placing.specs.Net.{normal_net, net_term}
use Rattle.placing.specs.Fillings.{Filling, Fits}
use Rattle.placing.specs.Holding.{substitution_of, holding_term, holding}
use Rattle.placing.proofs.Names.{all-exact}
use Rattle.placing.proofs.NormalNets.{normal-graph}

-- A text is congruent to its normal net.
pub text-net : (h : Held) → term_of_text h ≅ net_term (normal_net h)
text-net h = subst (λ G. term_of_text h ≅ term_of G) (sym (normal-graph h)) (text-normal h)

-- So a figure text holding fillings is congruent to its normal net holding them.
pub text-holding : (h : Held) (θ : List Filling) → Fits (normal_net h) θ → holding_term (term_of_text h) θ ≅ holding (normal_net h) θ
text-holding h θ fit = substitute-congruent (substitution_of θ) (all-exact (normal_net h) θ fit) (text-net h)

module _ (s f : Held) (θ : List Filling) (fit : Fits (normal_net f) θ) where
  pub to-texts : holding (normal_net f) θ ≅ net_term (normal_net s) → holding_term (term_of_text f) θ ≅ term_of_text s
  to-texts e = ≅-trans (text-holding f θ fit) (≅-trans e (≅-sym (text-net s)))

  pub from-texts : holding_term (term_of_text f) θ ≅ term_of_text s → holding (normal_net f) θ ≅ net_term (normal_net s)
  from-texts e = ≅-trans (≅-sym (text-holding f θ fit)) (≅-trans e (text-net s))
