-- What the crates above name of `ifmap_prefixes`.
pub use Rattle.ifmap_prefixes.specs.InScope
