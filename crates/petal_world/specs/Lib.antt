pub mod Play
pub mod Errands
pub mod Seats
pub mod Lines
pub mod Actors
pub mod Steps
pub use Rattle.server_host.specs.Desks
pub use Rattle.server_host.specs.Playable
