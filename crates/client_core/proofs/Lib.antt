pub mod Learnt
pub mod Sends
