pub mod Changes
pub mod Commits
pub mod Contents
pub mod Needed
pub mod Opening
pub mod Steps
