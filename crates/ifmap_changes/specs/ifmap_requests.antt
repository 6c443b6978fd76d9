-- What the crates above name of `ifmap_requests`.
pub use Rattle.ifmap_tellings.specs.ifmap_requests.Fit
pub use Rattle.ifmap_tellings.specs.ifmap_requests.declared
