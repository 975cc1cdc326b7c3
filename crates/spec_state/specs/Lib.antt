pub mod State
pub mod CellState
pub mod Role
pub mod Fence
pub mod Command
pub mod Settled
pub mod Bound
pub mod Place
