-- What the crates above name of `ifmap_rows`.
pub use Rattle.ifmap_rows.specs.contracts
