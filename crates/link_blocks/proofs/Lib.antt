pub mod Least
pub mod Links
mod Others
