-- What the crates above name of `ifmap_fresh`.
pub use Rattle.ifmap_changes.specs.ifmap_fresh.Fresh
