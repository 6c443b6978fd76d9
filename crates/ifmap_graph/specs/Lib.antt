-- The inside of a graph, in reading order.
pub mod Sides
pub mod Lagging
pub mod Shelved
pub mod After
pub mod Named
pub mod Linked
pub mod Joined
pub mod Counted
pub mod Waits
pub mod Drafted
pub mod Turning
pub mod Inside
pub mod Bringing
pub mod Touched
pub mod Out
pub mod Making
pub mod Seen
pub mod Stays
pub mod Releasing
pub mod Back
pub mod NumberLaws
-- What is passed on to the crates above.
pub mod ifmap_plans
pub mod ifmap_pool
pub mod ifmap_rows
pub mod ifmap_view
