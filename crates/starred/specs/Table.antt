-- Document 01, 'Worked sheets': the starred lines, in its order.
use Prim.Native.String.{String}
use Rattle.std.specs.Prelude.{true, false, List, [], ◌∷◌}
use Rattle.starred.specs.Case.{Case, compares, normalises, places, nowhere, prints}

-- 'Sheet `S 10 3 1 2 3`, `S 21 1 1`, `E 2 1`, `E 3 2`'
abbrev pub stage : List String
stage = "S  10   3   1   2   3" ∷ "S  21   1   1" ∷ "E   2   1" ∷ "E   3   2" ∷ []

-- 'figure `S 10 3 1 2 3`, `B 1 2 3 4`, `B 2 1 1`, `E 2 1`, `E 4 2`'
abbrev pub hut : List String
hut = "S  10   3   1   2   3" ∷ "B   1   2   3   4" ∷ "B   2   1   1" ∷ "E   2   1" ∷ "E   4   2" ∷ []

-- 'Whole output, each row padded to 33 columns'
abbrev pub page : List String
page = "A   0   0   0" ∷ "H   1   2" ∷ "E   1   1" ∷ "E   1   2" ∷ "H   2   1" ∷ "S  21   1   1" ∷ "E   1   1" ∷ []

abbrev pub table : List Case
table =
    -- `F 1 1` is the same as the empty sheet; `E 1 5` is not.
    compares ("F   1   1" ∷ []) [] true
    ∷ compares ("E   1   5" ∷ []) [] false
    -- `E 1 5`, `E 1 6` differs from `E 1 5`, `E 2 6`.
    ∷ compares ("E   1   5" ∷ "E   1   6" ∷ []) ("E   1   5" ∷ "E   2   6" ∷ []) false
    -- `S 30 2 1 2`, `E 1 5`, `E 2 5` has the normal text `S 30 2 1 1`, `E 1 5`.
    ∷ normalises ("S  30   2   1   2" ∷ "E   1   5" ∷ "E   2   5" ∷ []) ("S  30   2   1   1" ∷ "E   1   5" ∷ [])
    -- Figure `B 1 1 1`, empty sheet: filling `H 1 1`, `E 1 1`.
    ∷ places (record {
      sheet = [];
      pattern = "B   1   1   1" ∷ [];
      fillings = record { head = "H   1   1"; rows = "E   1   1" ∷ [] } ∷ [];
      filled = [];
    })
    -- Figure `B 1 0`, `B 2 0`, sheet `S 50 0`: `H 1 0`, `S 50 0`, `H 2 0`.
    ∷ places (record {
      sheet = "S  50   0" ∷ [];
      pattern = "B   1   0" ∷ "B   2   0" ∷ [];
      fillings = record { head = "H   1   0"; rows = "S  50   0" ∷ [] } ∷ record { head = "H   2   0"; rows = [] } ∷ [];
      filled = "S  50   0" ∷ [];
    })
    -- Sheet `S 40 1 1`, `S 41 1 1`; figure `S 40 1 1`, `S 41 1 2`, `B 1 2 1 2`: `H 1 2`, `E 1 1`, `E 1 2`.
    ∷ places (record {
      sheet = "S  40   1   1" ∷ "S  41   1   1" ∷ [];
      pattern = "S  40   1   1" ∷ "S  41   1   2" ∷ "B   1   2   1   2" ∷ [];
      fillings = record { head = "H   1   2"; rows = "E   1   1" ∷ "E   1   2" ∷ [] } ∷ [];
      filled = "S  40   1   1" ∷ "S  41   1   1" ∷ [];
    })
    -- Without the B row: 11.
    ∷ nowhere ("S  40   1   1" ∷ "S  41   1   1" ∷ []) ("S  40   1   1" ∷ "S  41   1   2" ∷ [])
    -- Stage and hut, from 001's corner case.
    ∷ places (record {
      sheet = stage;
      pattern = hut;
      fillings = record { head = "H   1   2"; rows = "E   1   1" ∷ "E   1   2" ∷ [] } ∷ record { head = "H   2   1"; rows = "S  21   1   1" ∷ "E   1   1" ∷ [] } ∷ [];
      filled = stage;
    })
    ∷ prints stage hut page
    -- Sheet `S 10 3 1 2 3`, `S 21 1 1`, `S 10 3 4 5 2`, `S 22 1 4`, `E 5 1`, `E 3 2`, the figure below: blank 1 gets `S 10 3 1 2 3`,
    -- `S 21 1 1`, `E 2 1`, `E 3 2`; blank 2 gets `S 22 1 1`, `E 1 1`.
    ∷ places (record {
      sheet = "S  10   3   1   2   3" ∷ "S  21   1   1" ∷ "S  10   3   4   5   2" ∷ "S  22   1   4" ∷ "E   5   1" ∷ "E   3   2" ∷ [];
      pattern = hut;
      fillings = record { head = "H   1   2"; rows = "S  10   3   1   2   3" ∷ "S  21   1   1" ∷ "E   2   1" ∷ "E   3   2" ∷ [] } ∷ record { head = "H   2   1"; rows = "S  22   1   1" ∷ "E   1   1" ∷ [] } ∷ [];
      filled = "S  10   3   1   2   3" ∷ "S  10   3   4   3   5" ∷ "S  21   1   4" ∷ "S  22   1   1" ∷ "E   2   1" ∷ "E   5   2" ∷ [];
    })
    ∷ []
