pub mod Committed
pub mod Listed
pub mod Reported
