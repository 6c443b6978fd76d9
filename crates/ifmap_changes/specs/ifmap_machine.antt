-- What the crates above name of `ifmap_machine`.
pub use Rattle.ifmap_tellings.specs.ifmap_machine.Agreeing
pub use Rattle.ifmap_tellings.specs.ifmap_machine.Ending
pub use Rattle.ifmap_tellings.specs.ifmap_machine.Events
pub use Rattle.ifmap_tellings.specs.ifmap_machine.Legal
pub use Rattle.ifmap_tellings.specs.ifmap_machine.OrderLaws
pub use Rattle.ifmap_tellings.specs.ifmap_machine.State
pub use Rattle.ifmap_tellings.specs.ifmap_machine.Step
pub use Rattle.ifmap_tellings.specs.ifmap_machine.Subscribing
pub use Rattle.ifmap_tellings.specs.ifmap_machine.Telling
pub use Rattle.ifmap_tellings.specs.ifmap_machine.declared
