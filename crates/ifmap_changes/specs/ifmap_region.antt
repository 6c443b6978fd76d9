-- What the crates above name of `ifmap_region`.
pub use Rattle.ifmap_tellings.specs.ifmap_region.Bounds
