-- What subscriptions keep and are told, in reading order.
pub mod SeenViews
pub mod Bounds
pub mod Changes
pub mod Located
pub mod SameSearches
pub mod Shown
pub mod Flipped
pub mod Touched
-- What is passed on to the crates above.
pub mod ifmap_folds
pub mod ifmap_fresh
pub mod ifmap_plans
pub mod ifmap_region
pub mod ifmap_search
