-- What the crates above name of `ifmap_filter`.
pub use Rattle.ifmap_search.specs.ifmap_filter.Meets
