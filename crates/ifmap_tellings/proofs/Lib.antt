pub mod AddedLaws
pub mod QueuedLaws
pub mod FlagLaws
pub mod OverflowLaws
pub mod RoomLaws
pub mod PassedLaws
pub mod NewsLaws
pub mod Queuing
