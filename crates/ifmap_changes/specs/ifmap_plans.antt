-- What the crates above name of `ifmap_plans`.
pub use Rattle.ifmap_graph.specs.ifmap_plans.Placing
pub use Rattle.ifmap_graph.specs.ifmap_plans.Plans
pub use Rattle.ifmap_graph.specs.ifmap_plans.laws
