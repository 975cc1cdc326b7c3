pub mod Slots
pub mod Turn
