-- What the crates above name of `ifmap_session`.
pub use Rattle.ifmap_machine.specs.ifmap_session.Sessions
pub use Rattle.ifmap_machine.specs.ifmap_session.laws
