-- What the prefixes in scope at a path are, and which declaration counts.
pub mod InScope
pub mod Rows
-- What is passed on to the crates above.
pub mod ifmap_lexer
pub mod ifmap_reader
