-- Laws on the definitions, which crates above cite.
pub mod FoldingLaws
