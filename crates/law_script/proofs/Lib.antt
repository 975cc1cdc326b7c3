pub mod Imports
pub mod FirstRefusedLine
pub mod TakenLines
pub mod FirstFaults
pub mod ByteRuns
