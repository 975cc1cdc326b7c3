pub mod Sent
pub mod Playable
pub mod Waiting
pub mod Desks
