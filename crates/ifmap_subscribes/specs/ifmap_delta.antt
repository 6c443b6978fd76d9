-- What the crates above name of `ifmap_delta`.
pub use Rattle.ifmap_changes.specs.ifmap_delta.SeenViews
pub use Rattle.ifmap_changes.specs.ifmap_delta.SameSearches
pub use Rattle.ifmap_changes.specs.ifmap_delta.contracts
