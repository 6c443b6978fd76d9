-- What the crates above name of `ifmap_dialogue`.
pub use Rattle.ifmap_dialogue.specs.Desks
pub use Rattle.ifmap_dialogue.specs.Dialogue
pub use Rattle.ifmap_dialogue.specs.Scenes
pub use Rattle.ifmap_dialogue.specs.Telling
pub use Rattle.ifmap_dialogue.specs.declared
