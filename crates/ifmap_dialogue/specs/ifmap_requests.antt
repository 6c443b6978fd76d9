-- What the crates above name of `ifmap_requests`.
pub use Rattle.ifmap_machine.specs.ifmap_requests.contracts
pub use Rattle.ifmap_machine.specs.ifmap_requests.declared
