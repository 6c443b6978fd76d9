pub mod Tags
pub mod Goes
pub mod Readings
