-- What the crates above name of `ifmap_delta`.
pub use Rattle.ifmap_tellings.specs.ifmap_delta.SeenViews
pub use Rattle.ifmap_tellings.specs.ifmap_delta.SameSearches
pub use Rattle.ifmap_tellings.specs.ifmap_delta.contracts
pub use Rattle.ifmap_tellings.specs.ifmap_delta.declared
