-- What a search finds, in reading order.
pub mod Matching
pub mod Reached
pub mod Walked
pub mod Fresh
pub mod Linking
pub mod Numbered
pub mod Items
pub mod Gathered
pub mod Collected
pub mod laws
-- What is passed on to the crates above.
pub mod ifmap_filter
pub mod ifmap_region
pub mod ifmap_search
pub mod ifmap_view
