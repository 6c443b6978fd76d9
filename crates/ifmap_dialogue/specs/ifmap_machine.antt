-- What the crates above name of `ifmap_machine`.
pub use Rattle.ifmap_machine.specs.Agreeing
pub use Rattle.ifmap_machine.specs.Ending
pub use Rattle.ifmap_machine.specs.Events
pub use Rattle.ifmap_machine.specs.Legal
pub use Rattle.ifmap_machine.specs.Since
pub use Rattle.ifmap_machine.specs.State
pub use Rattle.ifmap_machine.specs.Step
pub use Rattle.ifmap_machine.specs.Subscribing
pub use Rattle.ifmap_machine.specs.Telling
pub use Rattle.ifmap_machine.specs.contracts
pub use Rattle.ifmap_machine.specs.declared
