pub mod Bounds
pub mod Passing
pub mod Rows
