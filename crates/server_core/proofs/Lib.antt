pub mod Stops
pub mod Boots
pub mod Steps
pub mod Rooms
pub mod Works
pub mod Refused
pub mod Pairing
pub mod Working
pub mod Entering
pub mod Ticking
mod Looking
