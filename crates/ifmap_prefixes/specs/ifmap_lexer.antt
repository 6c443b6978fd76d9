-- What the crates above name of `ifmap_lexer`.
pub use Rattle.ifmap_reader.specs.ifmap_lexer.Cutting
pub use Rattle.ifmap_reader.specs.ifmap_lexer.There
