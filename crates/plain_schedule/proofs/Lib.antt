pub mod Ended
pub mod Prefixes
