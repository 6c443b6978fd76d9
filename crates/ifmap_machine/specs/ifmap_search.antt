-- What the crates above name of `ifmap_search`.
pub use Rattle.ifmap_replies.specs.ifmap_search.declared
