-- What the crates above name of `ifmap_fresh`.
pub use Rattle.ifmap_fresh.specs.Fresh
pub use Rattle.ifmap_fresh.specs.laws
