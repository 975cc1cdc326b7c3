pub mod Imports
pub mod Alone
pub mod Called
pub mod Hands
pub mod Joined
pub mod OwnLines
pub mod Phases
