pub mod Bodies
pub mod Heads
pub mod Outcomes
pub mod Wires
-- What is passed on to the crates above.
pub mod ifmap_heads
