pub mod Committed
pub mod Members
pub mod standing
