pub mod Kind
pub mod Wants
pub mod Noted
pub mod Ballots
