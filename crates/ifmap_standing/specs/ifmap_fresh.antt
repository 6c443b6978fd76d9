-- What the crates above name of `ifmap_fresh`.
pub use Rattle.ifmap_delta.specs.ifmap_fresh.Fresh
pub use Rattle.ifmap_delta.specs.ifmap_fresh.Linking
