pub mod Spelled
pub mod Equal
pub mod Telling
pub mod Alike
