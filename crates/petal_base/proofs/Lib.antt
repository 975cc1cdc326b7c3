pub mod Blocks
mod Bytes
pub mod Tuples
pub mod Made
