-- The operations of a subscribe, in reading order.
pub mod Renamings
pub mod Readying
pub mod Bounds
-- What is passed on to the crates above.
pub mod ifmap_changes
pub mod ifmap_delta
pub mod ifmap_fresh
pub mod ifmap_graph
pub mod ifmap_machine
pub mod ifmap_plans
pub mod ifmap_pool
pub mod ifmap_publish
pub mod ifmap_replies
pub mod ifmap_requests
pub mod ifmap_standing
pub mod ifmap_tellings
pub mod ifmap_view
