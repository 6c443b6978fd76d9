-- What a client keeps, in reading order.
pub mod EntrySets
pub mod Keeping
pub mod Lines
-- What is passed on to the crates above.
pub mod ifmap_folds
