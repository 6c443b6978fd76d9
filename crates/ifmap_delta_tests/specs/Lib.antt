-- What holds of a graph from one change to the next.
pub mod Worlds
