-- Subscriptions that stand, in reading order.
pub mod Standing
pub mod Located
pub mod Kept
pub mod News
pub mod Ways
pub mod Bounds
pub mod PlaceLaws
-- What is passed on to the crates above.
pub mod ifmap_delta
pub mod ifmap_fresh
pub mod ifmap_machine
pub mod ifmap_publish
pub mod ifmap_region
pub mod ifmap_replies
pub mod ifmap_requests
pub mod ifmap_session
