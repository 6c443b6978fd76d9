-- What the crates above name of `ifmap_forms`.
pub use Rattle.ifmap_forms.specs.AnswerLaws
pub use Rattle.ifmap_forms.specs.Checks
pub use Rattle.ifmap_forms.specs.FormLaws
pub use Rattle.ifmap_forms.specs.IdentifierLaws
pub use Rattle.ifmap_forms.specs.Items
pub use Rattle.ifmap_forms.specs.Scopes
pub use Rattle.ifmap_forms.specs.Tables
pub use Rattle.ifmap_forms.specs.Values
