pub mod Applied
pub mod CellTables
pub mod Letters
pub mod ListLemmas
pub mod Settled
pub mod Tests
