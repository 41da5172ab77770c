-- The table's ranges are reached: rows with the least and the greatest number that a field may hold
-- pass, and with one less or one more the column is bad. Four columns hold no greater link than 9999.
use Prim.Native.Nat.{◌+◌}
use mathlib.Core.Path.{refl}
use mathlib.Core.List.{[], ◌∷◌}
use Rattle.rows.specs.Format.{most_links, most_name, most_number, most_context}
use Rattle.sheet.specs.Reading.{no_ports}
use Rattle.sheet.specs.declared.kind.Kind.TheVariants.{Plain, Figure, Fillings}
use Rattle.sheet.specs.declared.answer.Answer.TheVariants.{Passed}
use Rattle.texts.specs.Texts.{symbol, context, fusion, edge, head, counted, bad_column, Answers}
use Rattle.texts.proofs.Texts.{answer_to}

-- The first number: a symbol's name, a blank's number, a head's.
pub symbol-name : Answers Plain no_ports []
    ((symbol (1 ∷ 0 ∷ []), Passed) ∷ (symbol (most_name ∷ 0 ∷ []), Passed) ∷ (symbol (0 ∷ 0 ∷ []), bad_column) ∷ (symbol ((most_name + 1) ∷ 0 ∷ []), bad_column) ∷ [])
unfolding answer_to
symbol-name = (refl, (refl, (refl, (refl, tt))))

pub blank-number : Answers Figure no_ports []
    ((context (1 ∷ 0 ∷ []), Passed) ∷ (context (most_context ∷ 0 ∷ []), Passed) ∷ (context (0 ∷ 0 ∷ []), bad_column) ∷ (context ((most_context + 1) ∷ 0 ∷ []), bad_column) ∷ [])
unfolding answer_to
blank-number = (refl, (refl, (refl, (refl, tt))))

pub head-number : Answers Fillings no_ports [] ((head 1 0, Passed) ∷ (head most_context 0, Passed) ∷ (head 0 0, bad_column) ∷ (head (most_context + 1) 0, bad_column) ∷ [])
unfolding answer_to
head-number = (refl, (refl, (refl, (refl, tt))))

-- The count, with as many links as it says; a link too few and a link too many.
pub symbol-count : Answers Plain no_ports []
    ((symbol (counted most_links most_links), Passed)
    ∷ (symbol (counted (most_links + 1) most_links), bad_column)
    ∷ (symbol (counted 2 1), bad_column)
    ∷ (symbol (counted 1 2), bad_column)
    ∷ [])
unfolding answer_to
symbol-count = (refl, (refl, (refl, (refl, tt))))

pub blank-count : Answers Figure no_ports []
    ((context (counted most_links most_links), Passed)
    ∷ (context (counted (most_links + 1) most_links), bad_column)
    ∷ (context (counted 2 1), bad_column)
    ∷ (context (counted 1 2), bad_column)
    ∷ [])
unfolding answer_to
blank-count = (refl, (refl, (refl, (refl, tt))))

pub head-count : Answers Fillings no_ports [] ((head 1 most_links, Passed) ∷ (head 1 (most_links + 1), bad_column) ∷ [])
unfolding answer_to
head-count = (refl, (refl, tt))

-- Links and marks.
pub link-range : Answers Plain no_ports []
    ((symbol (1 ∷ 2 ∷ 1 ∷ most_number ∷ []), Passed)
    ∷ (symbol (1 ∷ 2 ∷ 1 ∷ 0 ∷ []), bad_column)
    ∷ (fusion 1 most_number, Passed)
    ∷ (fusion most_number 1, Passed)
    ∷ (fusion 0 1, bad_column)
    ∷ (fusion 1 0, bad_column)
    ∷ [])
unfolding answer_to
link-range = (refl, (refl, (refl, (refl, (refl, (refl, tt))))))

pub edge-range : Answers Plain no_ports []
    ((edge 1 1, Passed) ∷ (edge most_number most_name, Passed) ∷ (edge 0 1, bad_column) ∷ (edge 1 0, bad_column) ∷ (edge 1 (most_name + 1), bad_column) ∷ [])
unfolding answer_to
edge-range = (refl, (refl, (refl, (refl, (refl, tt)))))
