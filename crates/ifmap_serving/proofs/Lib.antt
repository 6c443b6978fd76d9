pub mod Leading
pub mod Succession
pub mod HandingOut
pub mod Recalling
pub mod Sending
