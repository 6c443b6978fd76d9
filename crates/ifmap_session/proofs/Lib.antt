-- Searches by halving, and trees of last moments.
pub mod Halving
pub mod Trees
-- Rows, where they stand, and their last moments.
pub mod RowLaws
pub mod PlaceLaws
pub mod LastMomentLaws
-- Sessions and clients, the sizes of queues, and all that is kept.
pub mod SessionLaws
pub mod QueueLaws
pub mod KeptLaws
