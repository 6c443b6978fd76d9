-- What the crates above name of `ifmap_region`.
pub use Rattle.ifmap_standing.specs.ifmap_region.Bounds
pub use Rattle.ifmap_standing.specs.ifmap_region.Marks
