-- What filters mean and how they are written, in reading order.
pub mod Holding
pub mod Meets
pub mod Tokens
pub mod FrontLaws
pub mod Grammar
pub mod Texts
pub mod Spaces
pub mod Printing
pub mod Lexing
pub mod RawTokens
pub mod Laws
pub mod Progress
pub mod Reaching
-- What is passed on to the crates above.
pub mod ifmap_prefixes
