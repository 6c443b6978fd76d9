pub mod Runs
pub mod Names
pub mod Values
pub mod Tags
pub mod Declarations
pub mod Tokens
