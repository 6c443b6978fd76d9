pub mod Holdings
pub mod Index
