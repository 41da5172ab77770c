-- The labels, and one number behind them.
use Rattle.std.proofs.Common.{ℕ, List, [], ◌∷◌, ◌++◌, get_or, set, ap, ◌∙◌, arith, get_or-set_other}
use Rattle.std.proofs.lemmas.List.{get_or_append_left}
use Rattle.rows.specs.Limits.{sheet_link_limit}
use Rattle.starting.proofs.KinLabels.{row-labels}
use Rattle.starting.proofs.kin.kin_of.Goals as goal

pub returns : goal.returns
returns c = let a = c.args in
    let labels = c.step_labels.new.labels in
    let copied = c.copy_from_slice in
    let kin : List ℕ = copied.new.self ++ 0 ∷ [] in
    λ net o. row-labels net a.contexts a.rows a.links o labels (set kin sheet_link_limit c.last_link.result) c.step_labels.ensures.1
    (λ x h. get_or-set_other kin sheet_link_limit x c.last_link.result 0 (λ e. omega (arith, h, e)) ∙ get_or_append_left copied.new.self (0 ∷ []) 0 x (let e = copied.ensures.len in omega (arith, h, e)) ∙ ap (λ (l : List ℕ). get_or l x 0) copied.ensures.after)
