pub mod Contents
pub mod Keys
pub mod Occurrences
pub mod Pieces
pub mod Plain
