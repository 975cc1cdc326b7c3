pub mod Imports
pub mod LeftToMove
pub mod FrozenCopies
pub mod Fills
pub use Rattle.law_epochs.specs.EntryEpochs
pub use Rattle.law_epochs.specs.InTime
