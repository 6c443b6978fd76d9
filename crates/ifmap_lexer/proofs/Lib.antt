pub mod deciding
pub mod AssignmentLaws
pub mod Basics
pub mod CharacterLaws
pub mod EndLaws
pub mod ExpansionLaws
pub mod NameLaws
pub mod NumberLaws
mod QuoteLaws
pub mod RunLaws
pub mod SettingLaws
pub mod SplitLaws
pub mod Tables
pub mod TokenLaws
pub mod VerbatimLaws
pub mod WordLaws
