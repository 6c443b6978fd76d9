pub mod Checks
pub mod Answers
pub mod Values
pub mod CheckLaws
pub mod Scopes
pub mod Tables
pub mod Items
pub mod Gathering
pub mod SingleLaws
pub mod DoneLaws
pub mod ListLaws
pub mod AnswerLaws
pub mod FormLaws
pub mod IdentifierLaws
-- What is passed on to the crates above.
pub mod ifmap_filter
