-- What the crates above name of `ifmap_replies`.
pub use Rattle.ifmap_changes.specs.ifmap_replies.Results
pub use Rattle.ifmap_changes.specs.ifmap_replies.declared
