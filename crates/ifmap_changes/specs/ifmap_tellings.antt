-- What the crates above name of `ifmap_tellings`.
pub use Rattle.ifmap_tellings.specs.ChangeLaws
pub use Rattle.ifmap_tellings.specs.KeptPlaces
pub use Rattle.ifmap_tellings.specs.Tellings
pub use Rattle.ifmap_tellings.specs.ToldLaws
pub use Rattle.ifmap_tellings.specs.declared
