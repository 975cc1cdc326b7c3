mod Reading
mod Replies
