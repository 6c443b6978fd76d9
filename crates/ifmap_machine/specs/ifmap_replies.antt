-- What the crates above name of `ifmap_replies`.
pub use Rattle.ifmap_replies.specs.Results
pub use Rattle.ifmap_replies.specs.contracts
pub use Rattle.ifmap_replies.specs.declared
