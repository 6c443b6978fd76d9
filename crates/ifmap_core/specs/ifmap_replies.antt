-- What the crates above name of `ifmap_replies`.
pub use Rattle.ifmap_subscribes.specs.ifmap_replies.Results
pub use Rattle.ifmap_subscribes.specs.ifmap_replies.declared
