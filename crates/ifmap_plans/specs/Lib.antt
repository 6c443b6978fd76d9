-- What changes of a graph mean, in reading order.
pub mod Placing
pub mod Lists
pub mod Plans
pub mod After
pub mod laws
-- What is passed on to the crates above.
pub mod ifmap_view
