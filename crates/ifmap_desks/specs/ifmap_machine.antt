-- What the crates above name of `ifmap_machine`.
pub use Rattle.ifmap_dialogue.specs.ifmap_machine.State
pub use Rattle.ifmap_dialogue.specs.ifmap_machine.contracts
pub use Rattle.ifmap_dialogue.specs.ifmap_machine.declared
