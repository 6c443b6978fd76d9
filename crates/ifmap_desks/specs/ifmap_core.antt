-- What the crates above name of `ifmap_core`.
pub use Rattle.ifmap_core.specs.contracts
