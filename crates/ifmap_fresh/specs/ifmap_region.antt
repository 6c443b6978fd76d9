-- What the crates above name of `ifmap_region`.
pub use Rattle.ifmap_region.specs.contracts
