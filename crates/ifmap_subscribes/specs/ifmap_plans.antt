-- What the crates above name of `ifmap_plans`.
pub use Rattle.ifmap_changes.specs.ifmap_plans.Placing
