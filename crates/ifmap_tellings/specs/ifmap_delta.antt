-- What the crates above name of `ifmap_delta`.
pub use Rattle.ifmap_standing.specs.ifmap_delta.Bounds
pub use Rattle.ifmap_standing.specs.ifmap_delta.Changes
pub use Rattle.ifmap_standing.specs.ifmap_delta.SeenViews
pub use Rattle.ifmap_standing.specs.ifmap_delta.SameSearches
pub use Rattle.ifmap_standing.specs.ifmap_delta.contracts
pub use Rattle.ifmap_standing.specs.ifmap_delta.declared
