-- What the crates above name of `ifmap_view`.
pub use Rattle.ifmap_graph.specs.ifmap_view.Views
pub use Rattle.ifmap_graph.specs.ifmap_view.contracts
pub use Rattle.ifmap_graph.specs.ifmap_view.declared
