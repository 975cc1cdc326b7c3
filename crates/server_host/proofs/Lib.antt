pub mod Names
pub mod Letters
pub mod Awaiting
pub mod Ranges
pub mod Ordering
pub mod Left
pub mod Plans
