pub mod Codes
pub mod Kinds
pub mod Identifiers
pub mod Parts
pub mod IdentityNames
pub mod Canon
pub mod Laws
pub mod Items
pub mod Leading
pub mod Meaning
pub mod Written
pub mod SameLaws
pub mod CodeLaws
-- What is passed on to the crates above.
pub mod ifmap_addresses
pub mod ifmap_lexer
pub mod ifmap_reader
