pub mod Nexts
pub mod Orders
pub mod Places
pub mod Searches
pub mod Tops
pub mod Parts
pub mod Refills
