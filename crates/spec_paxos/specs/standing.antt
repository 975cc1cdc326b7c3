-- Agreement by standing ballots: one promise for every place from a stated one on, in place of two phases for each place.
pub mod Letters
pub mod Kept
pub mod Acceptor
pub mod Proposer
pub mod Listing
pub mod Schedule
