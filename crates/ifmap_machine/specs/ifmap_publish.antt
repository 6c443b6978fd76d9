-- What the crates above name of `ifmap_publish`.
pub use Rattle.ifmap_publish.specs.Apply
pub use Rattle.ifmap_publish.specs.NoteLaws
pub use Rattle.ifmap_publish.specs.Notes
pub use Rattle.ifmap_publish.specs.Retract
pub use Rattle.ifmap_publish.specs.declared
