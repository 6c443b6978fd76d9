pub mod Awaiting
pub mod Bounds
pub mod Failing
pub mod Filling
pub mod Gets
pub mod Reading
