-- The machine, in reading order.
pub mod Events
pub mod State
pub mod Telling
pub mod Ending
pub mod Subscribing
pub mod Step
pub mod Legal
pub mod Lives
pub mod Agreeing
pub mod Since
pub mod FitAnswers
pub mod OrderLaws
-- What is passed on to the crates above.
pub mod ifmap_publish
pub mod ifmap_region
pub mod ifmap_replies
pub mod ifmap_requests
pub mod ifmap_search
pub mod ifmap_session
