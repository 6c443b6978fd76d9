-- What the crates above name of `ifmap_view`.
pub use Rattle.ifmap_view.specs.Attachments
pub use Rattle.ifmap_view.specs.Rows
pub use Rattle.ifmap_view.specs.Views
pub use Rattle.ifmap_view.specs.contracts
pub use Rattle.ifmap_view.specs.declared
