pub mod Imports
pub mod StandingFacts
pub mod LaterStandingWorlds
pub mod StandingMovesKeepFacts
pub mod StandingSchedulesKeepFacts
pub mod StandingChosenWasWanted
