pub mod Farewell
pub mod Boots
pub mod Works
pub mod ServerView
pub mod Work
