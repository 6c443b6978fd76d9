pub mod Depths
pub mod Indexes
pub mod ReversedPaths
pub mod ListedScopes
pub mod OpenElements
pub mod AllowedTags
pub mod Progress
pub mod NextToken
pub mod Reads
-- What is passed on to the crates above.
pub mod ifmap_lexer
