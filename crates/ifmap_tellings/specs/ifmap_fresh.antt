-- What the crates above name of `ifmap_fresh`.
pub use Rattle.ifmap_standing.specs.ifmap_fresh.Fresh
pub use Rattle.ifmap_standing.specs.ifmap_fresh.Linking
