pub mod Apart
mod Append
pub mod Counting
pub mod Frame
mod Formatted
mod Found
mod Generations
mod Grouped
mod Groups
mod Halving
mod Heads
pub mod Lists
mod Ranges
mod Rows
mod Slots
pub mod Gates
mod Turned
