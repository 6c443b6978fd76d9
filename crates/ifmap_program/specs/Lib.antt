pub mod Usage
pub mod Runs
-- What is passed on to the crates above.
pub mod ifmap_server
