-- What the crates above name of `ifmap_filter`.
pub use Rattle.ifmap_filter.specs.Meets
pub use Rattle.ifmap_filter.specs.declared
