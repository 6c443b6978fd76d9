-- What the crates above name of `ifmap_plans`.
pub use Rattle.ifmap_plans.specs.After
pub use Rattle.ifmap_plans.specs.Placing
pub use Rattle.ifmap_plans.specs.Plans
pub use Rattle.ifmap_plans.specs.declared
pub use Rattle.ifmap_plans.specs.laws
