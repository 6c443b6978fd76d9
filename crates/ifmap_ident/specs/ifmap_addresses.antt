-- What the crates above name of `ifmap_addresses`.
pub use Rattle.ifmap_addresses.specs.Values
