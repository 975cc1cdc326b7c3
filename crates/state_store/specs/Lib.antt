pub mod Device
pub mod Errors
pub mod Body
pub mod Rows
pub use Rattle.spec_paxos.specs.Kept
