-- What the crates above name of `ifmap_search`.
pub use Rattle.ifmap_session.specs.ifmap_search.contracts
pub use Rattle.ifmap_session.specs.ifmap_search.declared
