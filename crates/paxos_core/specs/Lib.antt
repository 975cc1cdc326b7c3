pub mod Needs
pub use Rattle.state_store.specs.declared.error.StateError
