pub mod Stages
pub mod Entries
pub mod Refused
pub mod Trims
