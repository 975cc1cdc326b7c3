pub mod Again
pub mod Tidying
