-- What the crates above name of `ifmap_standing`.
pub use Rattle.ifmap_core.specs.ifmap_standing.contracts
