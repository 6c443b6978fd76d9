pub mod Limits
pub mod Heads
pub mod Fields
pub mod Posts
pub mod Answers
pub mod Starts
pub mod Messages
pub mod Empty
