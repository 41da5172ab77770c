-- The theorems in one place.
pub mod Theorems
-- Filled figures: their sizes, their texts.
pub mod Large
pub mod ResultText
pub mod GoodSize
pub mod Room
-- The tasks.
pub mod Claims
pub mod Places
pub mod WrittenFillings
pub mod Swapping
pub mod Passing
pub mod SlipLaws
