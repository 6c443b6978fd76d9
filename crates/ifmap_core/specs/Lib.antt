-- The machine as it is built, in reading order.
pub mod Completions
pub mod EmptyPolls
pub mod Causes
pub mod Light
pub mod Bounds
pub mod Answering
pub mod Subscribing
pub mod Ending
pub mod Counts
-- What is passed on to the crates above.
pub mod ifmap_changes
pub mod ifmap_delta
pub mod ifmap_machine
pub mod ifmap_replies
pub mod ifmap_search
pub mod ifmap_session
pub mod ifmap_standing
