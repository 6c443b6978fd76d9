pub mod Levels
pub mod Meaning
pub mod Collected
pub mod Unnumbered
pub mod Marks
pub mod Entries
