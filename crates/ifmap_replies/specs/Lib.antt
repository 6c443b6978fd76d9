pub mod Runs
pub mod Results
pub mod Wrapping
pub mod Fit
pub mod Fields
pub mod ResultForms
pub mod Means
pub mod Answers
pub mod Laws
-- What is passed on to the crates above.
pub mod ifmap_search
