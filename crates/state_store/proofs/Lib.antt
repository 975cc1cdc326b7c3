pub mod Records
pub mod Devices
pub mod Adds
pub mod Bodies
pub mod Equal
