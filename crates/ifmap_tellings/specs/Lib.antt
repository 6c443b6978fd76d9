-- What is pending of an event, in reading order.
pub mod Tellings
pub mod KeptPlaces
pub mod ToldLaws
pub mod ChangeLaws
-- What is passed on to the crates above.
pub mod ifmap_delta
pub mod ifmap_fresh
pub mod ifmap_machine
pub mod ifmap_publish
pub mod ifmap_region
pub mod ifmap_replies
pub mod ifmap_requests
pub mod ifmap_session
pub mod ifmap_standing
