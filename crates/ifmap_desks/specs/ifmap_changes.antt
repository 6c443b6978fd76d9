-- What the crates above name of `ifmap_changes`.
pub use Rattle.ifmap_core.specs.ifmap_changes.contracts
