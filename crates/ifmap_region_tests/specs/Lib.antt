pub mod Grid
pub mod Pairs
pub mod Rooms
