pub mod Region
pub mod Map
pub mod Link
pub mod View
pub mod Disk
