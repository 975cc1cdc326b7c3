pub mod Member
pub mod Quorum
pub mod Acceptor
pub mod Proposer
pub mod Kept
pub mod Chosen
pub mod Schedule
pub mod standing
