pub mod Ballot
pub mod Same
pub mod Spelling
