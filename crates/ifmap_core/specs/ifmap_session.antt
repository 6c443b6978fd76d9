-- What the crates above name of `ifmap_session`.
pub use Rattle.ifmap_session.specs.Sessions
pub use Rattle.ifmap_session.specs.contracts
pub use Rattle.ifmap_session.specs.laws
