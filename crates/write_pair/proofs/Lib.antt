pub mod Ending
pub mod Moves
pub mod Leads
pub mod Opens
pub mod Begun
pub mod Refused
pub mod Follows
