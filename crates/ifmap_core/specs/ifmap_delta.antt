-- What the crates above name of `ifmap_delta`.
pub use Rattle.ifmap_subscribes.specs.ifmap_delta.contracts
