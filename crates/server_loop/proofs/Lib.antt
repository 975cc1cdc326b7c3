pub mod Growing
pub mod Obedience
