pub mod ClientNames
pub mod Cardinality
pub mod Stamps
pub mod Stored
pub mod KeyWords
pub mod Keys
pub mod Whole
-- Laws on the definitions, which crates above cite.
pub mod laws
