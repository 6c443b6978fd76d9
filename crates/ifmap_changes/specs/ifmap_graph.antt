-- What the crates above name of `ifmap_graph`.
pub use Rattle.ifmap_graph.specs.Back
pub use Rattle.ifmap_graph.specs.Counted
pub use Rattle.ifmap_graph.specs.Inside
pub use Rattle.ifmap_graph.specs.Named
pub use Rattle.ifmap_graph.specs.NumberLaws
pub use Rattle.ifmap_graph.specs.Out
pub use Rattle.ifmap_graph.specs.Seen
pub use Rattle.ifmap_graph.specs.Shelved
pub use Rattle.ifmap_graph.specs.Sides
pub use Rattle.ifmap_graph.specs.Turning
