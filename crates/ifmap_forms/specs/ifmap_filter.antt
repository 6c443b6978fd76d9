-- What the crates above name of `ifmap_filter`.
pub use Rattle.ifmap_filter.specs.FrontLaws
pub use Rattle.ifmap_filter.specs.Grammar
pub use Rattle.ifmap_filter.specs.Holding
pub use Rattle.ifmap_filter.specs.Laws
pub use Rattle.ifmap_filter.specs.Meets
pub use Rattle.ifmap_filter.specs.Printing
pub use Rattle.ifmap_filter.specs.Texts
pub use Rattle.ifmap_filter.specs.Tokens
pub use Rattle.ifmap_filter.specs.declared
