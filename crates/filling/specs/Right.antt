-- Document 01, 'Numbers': a figure and a list of fillings for which there is no 8 and no 9 over whole texts.
use Rattle.std.specs.Prelude.{ℕ, suc, ◌≡◌, List, true}
use Rattle.hyperlmntal.specs.Link.{◌∈◌}
use Rattle.rows.specs.Packed.{ports_of}
use Rattle.rows.specs.declared.Context.{Context}
use Rattle.filling.specs.Read.{list_held, filling_read}
use Rattle.filling.specs.Fill.{figure_held, is_exact}

-- every B row has a filling of its number and count, and every filling has its ports as marks
pub record Right (figure list : List ℕ) : Type 0 where
  pub ported : (c : Context) → c ∈ (figure_held figure).contexts → ports_of (list_held list).contexts c.number ≡ suc c.count
  pub exact : (c : Context) → c ∈ (list_held list).contexts → is_exact (filling_read list c) ≡ true
