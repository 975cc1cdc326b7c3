pub mod Keeping
pub mod Mixed
pub mod Moments
pub mod Padding
pub mod Struck
pub mod Synced
pub mod Tearing
mod Writing
