-- What the crates above name of `ifmap_region`.
pub use Rattle.ifmap_dialogue.specs.ifmap_region.contracts
