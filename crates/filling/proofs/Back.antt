-- A list of fillings that is written is read back: the same fillings, where the rows of each are S rows, F rows, E rows.
use Prim.Native.Nat.{ℕ, ◌+◌}
use mathlib.Core.Path.{◌≡◌, refl, ap, ap₂, ◌∙◌, subst}
use mathlib.Core.List.Memᴰ
use mathlib.Core.List.{List, [], ◌∷◌, ◌++◌, map, map-map}
use lib.ListN.{length}
use Rattle.hyperlmntal.specs.Link.{◌∈◌}
use Rattle.hyperlmntal.proofs.Lists.{map-agree}
use Rattle.rows.specs.Format.{most_links}
use Rattle.rows.proofs.Padding.{take-padded}
use Rattle.reading.specs.Normal.{normal_form}
use Rattle.sheet.specs.Reading.{outcome_of, no_ports}
use Rattle.sheet.specs.declared.kind.Kind.TheVariants.{Plain, Pattern}
use Rattle.sheet.specs.declared.answer.Answer.TheVariants.{Passed}
use Rattle.texts.proofs.BuiltRows.{held_atom}
use Rattle.placing.specs.Net.{NetCell, Net, net_of}
use Rattle.placing.specs.Placing.{Placing, Good}
use Rattle.placing.specs.Fillings.{Row, symbol_row, Filling, rows_graph, symbol_of, mark_of, net_rows, normal_filling, fillings_of, normal_fillings_of}
use Rattle.placing.specs.ListText.{list_text}
use Rattle.placing.specs.ListFits.{symbols_in, points_in, edges_in, ListFits, Ordered}
use Rattle.placing.specs.TextNets.{sheet_net, pattern_net}
use Rattle.placing.proofs.ListBack.{list_heads, list-heads}
use Rattle.placing.proofs.ListParts.{part-atoms, part-points, part-edges}
use Rattle.placing.proofs.PlacedText.{text-fits}
use Rattle.placing.proofs.NormalRowsFit.{symbols-of-net}
use Rattle.filling.specs.Read.{symbol_read, point_read, rows_read, part_held, filling_read, fillings_read}

symbol-read : (c : NetCell) → symbol_read (held_atom c) ≡ symbol_of c
symbol-read c = ap (symbol_row c.0) (take-padded most_links 0 c.1)

module _ (θ : List Filling) (fits : ListFits θ) where
  rows_back : (f : Filling) → f ∈ θ → Ordered f.rows → rows_read (part_held (list_text θ) f.number) ≡ f.rows
  rows_back f i o =
      ap₂ ◌++◌
      (ap (map symbol_read) (part-atoms θ fits f i) ∙ map-map symbol_read held_atom (symbols_in f.rows) ∙ map-agree (λ c. symbol_read (held_atom c)) symbol_of (symbols_in f.rows) (λ c j. symbol-read c))
      (ap₂ (λ (p e : List (ℕ × ℕ)). map point_read p ++ map mark_of e) (part-points θ fits f i) (part-edges θ fits f i))
      ∙ o

  heads-back : (η : List Filling) (row : ℕ) → ((f : Filling) → f ∈ η → f ∈ θ) → ((f : Filling) → f ∈ η → Ordered f.rows) → map (filling_read (list_text θ)) (list_heads row η) ≡ η
  heads-back [] row k o = refl
  heads-back (f ∷ η) row k o =
      ap₂ ◌∷◌ (λ i. record { number = f.number; ports = f.ports; rows = rows_back f (k f (Memᴰ.head refl)) (o f (Memᴰ.head refl)) i })
      (heads-back η (row + (1 + length f.rows)) (λ g m. k g (Memᴰ.tail m)) (λ g m. o g (Memᴰ.tail m)))

  pub list_back : ((f : Filling) → f ∈ θ → Ordered f.rows) → fillings_read (list_text θ) ≡ θ
  list_back o = ap (map (filling_read (list_text θ))) (list-heads θ fits) ∙ heads-back θ 0 (λ f m. m) o

-- The rows of a net are so ordered.

points-net : (a : List NetCell) (m : List (ℕ × ℕ)) → points_in (map symbol_of a ++ map mark_of m) ≡ []
points-net [] [] = refl
points-net [] (e ∷ m) = points-net [] m
points-net (c ∷ a) m = points-net a m

edges-net : (a : List NetCell) (m : List (ℕ × ℕ)) → edges_in (map symbol_of a ++ map mark_of m) ≡ m
edges-net [] [] = refl
edges-net [] (e ∷ m) = ap (λ l. e ∷ l) (edges-net [] m)
edges-net (c ∷ a) m = edges-net a m

pub net-ordered : (N : Net) → Ordered (net_rows N)
net-ordered N =
    ap₂ (λ (a : List NetCell) (b : List Row). map symbol_of a ++ b) (symbols-of-net N.atoms N.marks)
    (ap₂ (λ (p e : List (ℕ × ℕ)). map point_read p ++ map mark_of e) (points-net N.atoms N.marks) (edges-net N.atoms N.marks))

-- The list that a good placing gives is read back as the fillings of that placing.
pub placed-back : (sheet pattern : List ℕ) → (outcome_of Plain no_ports sheet).answer ≡ Passed → (outcome_of Pattern no_ports pattern).answer ≡ Passed
    → (p : Placing) → Good (sheet_net sheet) (pattern_net pattern) p
    → fillings_read (list_text (normal_fillings_of (sheet_net sheet) p (pattern_net pattern))) ≡ normal_fillings_of (sheet_net sheet) p (pattern_net pattern)
placed-back sheet pattern a b p good =
    let S = sheet_net sheet in
    let F = pattern_net pattern in
    list_back (normal_fillings_of S p F) (text-fits sheet pattern a b p good)
    (λ f i. let t : (g : Filling) × (g ∈ fillings_of S p F) × (normal_filling g ≡ f) = Memᴰ.of_map normal_filling (fillings_of S p F) i in subst (λ h. Ordered h.rows) t.2 (net-ordered (net_of (normal_form (rows_graph t.0.rows)))))
