-- Arrays as flags and tables.
pub mod Tables
pub mod Ports
pub mod StandingWords
pub mod Reading
pub mod Chaining
pub mod Walking
pub mod PlainSteps
-- Labels of figure links.
pub mod Labels
pub mod Owners
pub mod Alone
pub mod Linking
