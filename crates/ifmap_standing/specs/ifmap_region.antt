-- What the crates above name of `ifmap_region`.
pub use Rattle.ifmap_delta.specs.ifmap_region.Bounds
pub use Rattle.ifmap_delta.specs.ifmap_region.Marks
