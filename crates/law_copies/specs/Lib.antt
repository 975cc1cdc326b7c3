pub mod Imports
pub mod Pair
pub mod Visits
pub mod CopyProgress
pub mod LoneSteps
pub mod GoodCopies
pub mod BothSteps
pub mod WaitingStores
