-- What the crates above name of `ifmap_requests`.
pub use Rattle.ifmap_dialogue.specs.ifmap_requests.contracts
