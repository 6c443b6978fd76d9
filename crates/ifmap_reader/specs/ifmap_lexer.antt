-- What the crates above name of `ifmap_lexer`.
pub use Rattle.ifmap_lexer.specs.Cutting
pub use Rattle.ifmap_lexer.specs.There
