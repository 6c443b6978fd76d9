pub mod Desks
pub mod Telling
pub mod Turns
pub mod Words
pub mod Findings
pub mod Wires
pub mod Answers
pub mod Rounds
pub mod Scenes
pub mod Dialogue
-- What is passed on to the crates above.
pub mod ifmap_io
pub mod ifmap_machine
pub mod ifmap_region
pub mod ifmap_replies
pub mod ifmap_requests
