pub mod EscapeLaws
pub mod KeyLaws
pub mod NumberLaws
pub mod OutlinePieces
pub mod PieceLaws
pub mod PrintedLaws
pub mod SpaceLaws
