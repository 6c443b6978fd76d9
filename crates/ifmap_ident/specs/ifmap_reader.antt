-- What the crates above name of `ifmap_reader`.
pub use Rattle.ifmap_reader.specs.Reads
pub use Rattle.ifmap_reader.specs.declared
