pub mod Following
pub mod Fronts
pub mod LineLaws
pub mod Placing
