pub mod Destinations
pub mod Statuses
