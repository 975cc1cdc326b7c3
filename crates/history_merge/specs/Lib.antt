pub mod Order
pub mod Recorded
pub mod Runs
pub mod Fronts
