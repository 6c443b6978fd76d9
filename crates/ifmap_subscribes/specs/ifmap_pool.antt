-- What the crates above name of `ifmap_pool`.
pub use Rattle.ifmap_changes.specs.ifmap_pool.Holdings
