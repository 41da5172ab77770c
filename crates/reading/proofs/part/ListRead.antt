-- What the reader of a list that passes hands back: among it the list's heads.
use Prim.Native.Nat.{ℕ}
use mathlib.Core.Path.{◌≡◌, sym, ◌∙◌, ap}
use mathlib.Core.List.{List}
use Rattle.sheet.specs.Filling.{is_passed, HeadsRead}
use Rattle.sheet.specs.Reading.{outcome_of, no_ports}
use Rattle.sheet.specs.declared.kind.Kind.TheVariants.{Fillings}
use Rattle.sheet.specs.declared.answer.Answer.TheVariants.{Passed}
use Rattle.reading.specs.Made.{reading_of}
use Rattle.reading.specs.declared.read.Reading.{Reading}

pub heads-read : (list : List ℕ) (r : Reading) → r ≡ reading_of Fillings (outcome_of Fillings no_ports list) → r.answer ≡ Passed → HeadsRead list r.normal.contexts r.normal.context_count
heads-read list r e p =
    record {
      passes = ap is_passed (sym (ap (λ (x : Reading). x.answer) e) ∙ p);
      contexts = ap (λ (x : Reading). x.normal.contexts) e;
      count = ap (λ (x : Reading). x.normal.context_count) e;
    }
