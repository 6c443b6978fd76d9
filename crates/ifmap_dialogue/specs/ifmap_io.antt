-- What the crates above name of `ifmap_io`.
pub use Rattle.ifmap_io.specs.Causes
