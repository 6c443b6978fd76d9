-- What the crates above name of `ifmap_view`.
pub use Rattle.ifmap_view.specs.Attachments
pub use Rattle.ifmap_view.specs.declared
