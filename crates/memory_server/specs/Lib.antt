pub mod Armed
pub mod Server
pub mod Ends
pub mod Recovery
pub mod Booted
pub mod Members
