-- What the crates above name of `ifmap_tellings`.
pub use Rattle.ifmap_changes.specs.ifmap_tellings.ChangeLaws
pub use Rattle.ifmap_changes.specs.ifmap_tellings.KeptPlaces
pub use Rattle.ifmap_changes.specs.ifmap_tellings.Tellings
pub use Rattle.ifmap_changes.specs.ifmap_tellings.ToldLaws
pub use Rattle.ifmap_changes.specs.ifmap_tellings.declared
