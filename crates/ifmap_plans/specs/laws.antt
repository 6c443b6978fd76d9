-- Laws on the definitions, which crates above cite.
pub mod KeyLaws
pub mod PlacingLaws
pub mod ListLaws
pub mod OnItemLaws
pub mod GraphLists
