-- What the crates above name of `ifmap_changes`.
pub use Rattle.ifmap_changes.specs.Between
pub use Rattle.ifmap_changes.specs.Bounds
pub use Rattle.ifmap_changes.specs.Changes
pub use Rattle.ifmap_changes.specs.KeptLaws
pub use Rattle.ifmap_changes.specs.StartLaws
pub use Rattle.ifmap_changes.specs.contracts
pub use Rattle.ifmap_changes.specs.declared
