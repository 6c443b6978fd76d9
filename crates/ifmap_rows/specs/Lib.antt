-- What the index of an item's rows is, in reading order.
pub mod Indexed
pub mod laws
-- What is passed on to the crates above.
pub mod ifmap_plans
