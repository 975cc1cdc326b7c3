pub mod Disk
pub mod Keeping
pub mod Mixes
pub mod Padded
pub mod PlanRuns
pub mod PlannedWrites
pub mod Plans
pub mod Tears
