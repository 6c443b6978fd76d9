pub mod Alone
pub mod EnvelopeLaws
pub mod Finding
