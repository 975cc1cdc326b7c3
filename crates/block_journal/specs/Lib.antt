pub mod Groups
pub mod Halves
pub mod Heads
pub mod Pieces
pub mod Records
pub mod Region
pub mod Gate
