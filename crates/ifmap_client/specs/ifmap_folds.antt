-- What the crates above name of `ifmap_folds`.
pub use Rattle.ifmap_folds.specs.Folds
