-- What the crates above name of `ifmap_standing`.
pub use Rattle.ifmap_tellings.specs.ifmap_standing.Kept
pub use Rattle.ifmap_tellings.specs.ifmap_standing.PlaceLaws
pub use Rattle.ifmap_tellings.specs.ifmap_standing.Standing
pub use Rattle.ifmap_tellings.specs.ifmap_standing.Ways
pub use Rattle.ifmap_tellings.specs.ifmap_standing.contracts
pub use Rattle.ifmap_tellings.specs.ifmap_standing.declared
