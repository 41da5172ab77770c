-- The definitions, in reading order.
pub mod Link
pub mod Template
pub mod LinkSubstitution
pub mod LinkFigure
pub mod Congruence
pub mod GraphSubstitution
pub mod Hypergraph
pub mod Numbered
pub mod Isomorphism
pub mod DenotedSubstitution
pub mod TermOf
