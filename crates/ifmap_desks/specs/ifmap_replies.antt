-- What the crates above name of `ifmap_replies`.
pub use Rattle.ifmap_dialogue.specs.ifmap_replies.contracts
