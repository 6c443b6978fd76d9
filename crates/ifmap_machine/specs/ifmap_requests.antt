-- What the crates above name of `ifmap_requests`.
pub use Rattle.ifmap_publish.specs.ifmap_requests.Fit
pub use Rattle.ifmap_publish.specs.ifmap_requests.Laws
pub use Rattle.ifmap_publish.specs.ifmap_requests.Means
pub use Rattle.ifmap_publish.specs.ifmap_requests.contracts
pub use Rattle.ifmap_publish.specs.ifmap_requests.declared
