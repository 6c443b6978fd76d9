-- Sessions, and what each call makes of them, in reading order.
pub mod SessionIds
pub mod Sessions
pub mod Openings
-- How they are kept.
pub mod Seats
pub mod LastMoments
pub mod Rows
pub mod Places
-- Laws on the definitions, which crates above cite.
pub mod laws
-- What is passed on to the crates above.
pub mod ifmap_search
