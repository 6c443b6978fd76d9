-- What the crates above name of `ifmap_server`.
pub use Rattle.ifmap_server.specs.Ends
