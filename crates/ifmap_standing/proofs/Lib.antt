pub mod Numbering
pub mod Places
pub mod Stages
pub mod Undoing
pub mod Taking
