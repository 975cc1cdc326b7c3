pub mod Stages
pub mod Entries
pub use Rattle.link_blocks.specs.Walks
