pub mod Devices
pub mod Held
pub mod Ledgers
pub mod MarkOrder
pub mod Ordered
pub mod Readings
pub mod RecordLists
pub mod Spelled
mod Spellings
pub mod Turning
pub use Rattle.block_journal.proofs.Apart
pub use Rattle.block_journal.proofs.Lists
