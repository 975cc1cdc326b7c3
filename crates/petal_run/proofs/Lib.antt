pub mod Ends
pub mod Prefixes
pub mod Ordered
pub mod Short
pub mod Telling
