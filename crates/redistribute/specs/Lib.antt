pub mod Sending
pub mod Following
pub mod Wants
pub mod Next
pub mod Swept
