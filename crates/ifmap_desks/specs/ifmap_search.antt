-- What the crates above name of `ifmap_search`.
pub use Rattle.ifmap_core.specs.ifmap_search.contracts
