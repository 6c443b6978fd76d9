pub mod CivilFacts
pub mod CivilOf
