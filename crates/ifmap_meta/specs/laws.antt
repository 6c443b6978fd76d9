pub mod ClientBytes
pub mod Order
pub mod ContentLaws
pub mod StampLaws
pub mod WholeLaws
pub mod KeyLaws
pub mod KeyWordLaws
