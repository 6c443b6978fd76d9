-- Lemmas of this crate.
pub mod Keeping
pub mod Agreeing
pub mod Stepping
pub mod Joining
