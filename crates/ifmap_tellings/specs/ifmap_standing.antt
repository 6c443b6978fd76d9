-- What the crates above name of `ifmap_standing`.
pub use Rattle.ifmap_standing.specs.Bounds
pub use Rattle.ifmap_standing.specs.Kept
pub use Rattle.ifmap_standing.specs.News
pub use Rattle.ifmap_standing.specs.PlaceLaws
pub use Rattle.ifmap_standing.specs.Standing
pub use Rattle.ifmap_standing.specs.Ways
pub use Rattle.ifmap_standing.specs.contracts
pub use Rattle.ifmap_standing.specs.declared
