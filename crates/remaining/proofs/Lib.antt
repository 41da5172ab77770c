-- Words that are unions of classes.
pub mod JoinLaws
-- Words in which the contexts of atoms lie.
pub mod AllowLaws
pub mod GivenLaws
pub mod KeptLaws
