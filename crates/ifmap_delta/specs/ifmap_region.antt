-- What the crates above name of `ifmap_region`.
pub use Rattle.ifmap_region.specs.Bounds
pub use Rattle.ifmap_region.specs.DepthLaws
pub use Rattle.ifmap_region.specs.Marks
pub use Rattle.ifmap_region.specs.Walks
pub use Rattle.ifmap_region.specs.Ways
