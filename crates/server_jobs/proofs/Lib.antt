pub mod Ends
pub mod Wanting
