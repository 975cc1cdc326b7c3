pub mod Puts
pub mod Chains
pub mod InOrder
pub mod Kept
pub mod Commits
pub mod Drops
pub mod Walks
pub mod Fronts
pub use Rattle.server_store.proofs.Commits as ServerStoreCommits
