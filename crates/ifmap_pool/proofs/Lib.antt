pub mod Changes
pub mod Emptiness
pub mod Holds
pub mod Kept
pub mod Live
pub mod Named
pub mod Releases
pub mod Search
