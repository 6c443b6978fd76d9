-- Laws on the definitions, which crates above cite.
pub mod SameLaws
pub mod OrderedLaws
pub mod GatheringLaws
pub mod JoiningLaws
pub mod AlongLaws
