pub mod FollowUps
pub mod Said
pub mod Starts
pub mod States
pub mod Letters
pub mod AppliedJobs
pub mod Runs
pub mod Wanted
