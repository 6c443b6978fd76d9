-- What the crates above name of `ifmap_pool`.
pub use Rattle.ifmap_graph.specs.ifmap_pool.Holdings
