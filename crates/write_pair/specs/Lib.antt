pub mod Flagged
pub mod Moved
pub mod Opened
pub mod Wanted
