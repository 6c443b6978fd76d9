-- What the crates above name of `ifmap_publish`.
pub use Rattle.ifmap_changes.specs.ifmap_publish.Apply
pub use Rattle.ifmap_changes.specs.ifmap_publish.Notes
pub use Rattle.ifmap_changes.specs.ifmap_publish.Retract
pub use Rattle.ifmap_changes.specs.ifmap_publish.declared
