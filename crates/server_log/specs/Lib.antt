pub mod Done
pub mod Part
pub mod Said
pub mod Entered
