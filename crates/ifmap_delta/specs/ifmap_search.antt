-- What the crates above name of `ifmap_search`.
pub use Rattle.ifmap_search.specs.declared
