-- What the crates above name of `ifmap_graph`.
pub use Rattle.ifmap_changes.specs.ifmap_graph.Back
pub use Rattle.ifmap_changes.specs.ifmap_graph.Counted
pub use Rattle.ifmap_changes.specs.ifmap_graph.Inside
pub use Rattle.ifmap_changes.specs.ifmap_graph.Out
pub use Rattle.ifmap_changes.specs.ifmap_graph.Seen
pub use Rattle.ifmap_changes.specs.ifmap_graph.Shelved
pub use Rattle.ifmap_changes.specs.ifmap_graph.Sides
