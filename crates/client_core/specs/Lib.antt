pub mod ClientView
pub mod Sending
pub mod Learning
pub mod Judging
pub mod Open
pub mod Orders
pub mod Posting
