-- What the crates above name of `ifmap_session`.
pub use Rattle.ifmap_tellings.specs.ifmap_session.Sessions
pub use Rattle.ifmap_tellings.specs.ifmap_session.laws
