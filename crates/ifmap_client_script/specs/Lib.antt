-- What a script of a client does, in reading order.
pub mod ScriptFailures
pub mod Deeds
pub mod Printing
pub mod Exchanges
pub mod Scripts
pub mod Ends
pub mod Outlets
pub mod Promises
pub mod Holding
pub mod TakenBytes
pub mod Turns
