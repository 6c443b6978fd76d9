-- What the crates above name of `ifmap_delta`.
pub use Rattle.ifmap_delta.specs.Bounds
pub use Rattle.ifmap_delta.specs.Changes
pub use Rattle.ifmap_delta.specs.SeenViews
pub use Rattle.ifmap_delta.specs.SameSearches
pub use Rattle.ifmap_delta.specs.contracts
pub use Rattle.ifmap_delta.specs.declared
