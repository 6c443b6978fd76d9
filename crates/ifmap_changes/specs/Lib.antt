-- Parts of the machine and changes of its graph, in reading order.
pub mod Between
pub mod Changes
pub mod Bounds
pub mod StartLaws
pub mod KeptLaws
-- What is passed on to the crates above.
pub mod ifmap_delta
pub mod ifmap_fresh
pub mod ifmap_graph
pub mod ifmap_machine
pub mod ifmap_plans
pub mod ifmap_pool
pub mod ifmap_publish
pub mod ifmap_region
pub mod ifmap_replies
pub mod ifmap_requests
pub mod ifmap_session
pub mod ifmap_standing
pub mod ifmap_tellings
pub mod ifmap_view
