pub mod TableLaws
pub mod TextLaws
pub mod IdLaws
