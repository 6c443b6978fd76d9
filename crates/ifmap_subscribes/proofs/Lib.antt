-- How the names of a session are renamed.
pub mod RenamingPlaces
pub mod RenamingStarts
pub mod RenamingTold
-- What is kept of the subscriptions, and the sizes of what is told.
pub mod KeptNames
pub mod ToldSizes
-- How a subscription starts: the hold of its number.
pub mod Starts
-- How operations are made ready: lists, names, what a renaming makes, and what stays ready.
pub mod Parting
pub mod OfNames
pub mod Renamed
pub mod Ready
pub mod OfScene
pub mod Adding
pub mod Nothing
-- How many steps operations take.
pub mod Spending
