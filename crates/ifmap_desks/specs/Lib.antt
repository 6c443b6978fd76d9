-- Desks, in reading order.
pub mod Holding
pub mod Machines
pub mod Calls
pub mod Recalls
pub mod Answers
pub mod Asking
pub mod Agreement
-- What is passed on to the crates above.
pub mod ifmap_changes
pub mod ifmap_core
pub mod ifmap_delta
pub mod ifmap_dialogue
pub mod ifmap_machine
pub mod ifmap_region
pub mod ifmap_replies
pub mod ifmap_requests
pub mod ifmap_search
pub mod ifmap_session
pub mod ifmap_standing
