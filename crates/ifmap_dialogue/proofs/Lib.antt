pub mod Turning
pub mod Coming
pub mod Writing
pub mod Answering
pub mod Connecting
