pub mod Mixing
pub mod Texts
