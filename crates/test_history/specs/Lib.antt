pub mod Acts
pub mod Blanks
pub mod Boots
pub mod Copies
pub mod Returned
pub mod Settles
pub mod Snapshots
pub mod Stops
