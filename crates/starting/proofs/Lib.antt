-- Counting.
pub mod Counting
pub mod Sums
-- What a good placing does at links.
pub mod GoodLinks
-- The sets as arrays, and nets in arrays.
pub mod Tallies
pub mod Ports
pub mod Marking
pub mod Starting
-- Labels of links that may go to one place.
pub mod KinLabels
