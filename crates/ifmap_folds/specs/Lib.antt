-- What subscriptions are told, in reading order.
pub mod Differences
pub mod Notes
pub mod Folds
pub mod laws
-- What is passed on to the crates above.
pub mod ifmap_fresh
pub mod ifmap_plans
pub mod ifmap_region
