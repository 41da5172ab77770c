-- The theorems in one place, and worked terms.
pub mod Theorems
pub mod Worked
pub mod TellApart
-- Lists.
pub mod Lists
pub mod Permutations
pub mod Positions
pub mod Gathering
-- Hypergraphs and their isomorphisms.
pub mod Connection
pub mod Relational
pub mod Equivalence
pub mod Flats
pub mod Relabel
pub mod Reordering
pub mod Places
pub mod Numbering
-- Terms: links, renaming, the theorems of 004, figure 2.3.
pub mod Links
pub mod Derived
pub mod Thesis
pub mod LinkEquations
pub mod LinkFigure
-- H1.
pub mod FreeNames
pub mod CongruentNames
pub mod SoundPlaces
pub mod SoundUnion
pub mod SoundHiding
pub mod Soundness
-- H2.
pub mod Nets
pub mod Ports
pub mod Wires
pub mod Extraction
pub mod Completeness
-- H3.
pub mod SubstitutionLaws
pub mod Filling
pub mod FilledNodes
pub mod Grafting
pub mod FillingParts
pub mod Substitution
-- Substitution under isomorphism and congruence, and terms of hypergraphs.
pub mod Slots
pub mod Gluing
pub mod FillingIso
pub mod ExactPorts
pub mod CongruentSubstitution
pub mod Denoting
