-- What the crates above name of `ifmap_heads`.
pub use Rattle.ifmap_heads.specs.Answers
pub use Rattle.ifmap_heads.specs.Limits
pub use Rattle.ifmap_heads.specs.Messages
