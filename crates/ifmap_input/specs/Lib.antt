-- What is taken from a source piece by piece.
pub mod Inputs
pub mod InputLaws
pub mod Scripts
pub mod FirstPlaces
pub mod FirstPlaceLaws
