pub mod Spaces
pub mod Envelopes
pub mod MakingLaws
