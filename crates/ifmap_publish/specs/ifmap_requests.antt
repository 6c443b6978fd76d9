-- What the crates above name of `ifmap_requests`.
pub use Rattle.ifmap_requests.specs.Fit
pub use Rattle.ifmap_requests.specs.Laws
pub use Rattle.ifmap_requests.specs.Means
pub use Rattle.ifmap_requests.specs.contracts
pub use Rattle.ifmap_requests.specs.declared
