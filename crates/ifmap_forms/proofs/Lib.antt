pub mod PartLaws
pub mod NumberLaws
pub mod KindLaws
pub mod ItemLaws
pub mod ListedLaws
pub mod CutLaws
