pub mod Attributes
pub mod RequestSpaces
pub mod RequestElements
pub mod Bounds
pub mod Laws
