-- What the crates above name of `ifmap_session`.
pub use Rattle.ifmap_core.specs.ifmap_session.contracts
