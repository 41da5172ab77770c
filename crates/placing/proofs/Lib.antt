-- The theorems in one place, and worked placings.
pub mod Theorems
pub mod WorkedPlacings
-- Lists, orders and connections.
pub mod Lists
pub mod Orders
pub mod Connecting
-- Nets and rows as hypergraphs, and the filled figure.
pub mod Names
pub mod Standing
pub mod Reduction
pub mod Filled
-- From fillings to a placing.
pub mod Origins
pub mod Landing
pub mod FillingsPlacing
pub mod OwnLinks
-- From a placing to fillings.
pub mod FillingsFit
pub mod PlacingFillings
pub mod PlacedAtoms
pub mod NetPlacing
-- The normal nets of texts.
pub mod NormalNets
pub mod NormalTexts
pub mod TextPlacing
pub mod NormalFillings
-- The filled figure.
pub mod FilledText
pub mod FilledOrder
pub mod WorkedFilled
-- Two sheets.
pub mod Sheets
-- A list of fillings as a text.
pub mod ListRows
pub mod ListBack
pub mod ListParts
pub mod NormalRowsFit
pub mod PlacedList
pub mod PlacedText
-- The smallest good placing.
pub mod FirstLaws
pub mod Tests
pub mod Joined
pub mod StepLabels
pub mod GoodTest
pub mod SmallestLaws
pub mod Narrowed
pub mod NormalTest
-- What the conditions are for.
pub mod Wrong
pub mod Needed
pub mod NeededFillings
-- Demand 3 for the placing that is chosen.
pub mod Chosen
