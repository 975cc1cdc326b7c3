pub mod Exchanges
pub mod Free
pub mod Turns
