-- What the crates above name of `ifmap_view`.
pub use Rattle.ifmap_changes.specs.ifmap_view.contracts
pub use Rattle.ifmap_changes.specs.ifmap_view.declared
