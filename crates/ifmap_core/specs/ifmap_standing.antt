-- What the crates above name of `ifmap_standing`.
pub use Rattle.ifmap_subscribes.specs.ifmap_standing.contracts
