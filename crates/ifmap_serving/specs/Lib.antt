-- Workers, in reading order.
pub mod Connections
pub mod Works
pub mod Stands
