-- What the crates above name of `ifmap_envelopes`.
pub use Rattle.ifmap_envelopes.specs.Envelopes
pub use Rattle.ifmap_envelopes.specs.MakingLaws
pub use Rattle.ifmap_envelopes.specs.Spaces
