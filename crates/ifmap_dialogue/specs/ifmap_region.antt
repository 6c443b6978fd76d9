-- What the crates above name of `ifmap_region`.
pub use Rattle.ifmap_machine.specs.ifmap_region.contracts
