pub mod Tallying
pub mod Following
pub mod Pieces
pub mod WordList
pub mod Kept
pub mod Tuples
pub mod Runs
