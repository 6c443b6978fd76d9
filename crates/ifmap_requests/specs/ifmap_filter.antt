-- What the crates above name of `ifmap_filter`.
pub use Rattle.ifmap_forms.specs.ifmap_filter.Meets
pub use Rattle.ifmap_forms.specs.ifmap_filter.declared
