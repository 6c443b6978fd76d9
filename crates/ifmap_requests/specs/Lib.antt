pub mod Published
pub mod RequestForms
pub mod Means
pub mod Answers
pub mod FitFilters
pub mod Fit
pub mod Laws
-- What is passed on to the crates above.
pub mod ifmap_envelopes
pub mod ifmap_filter
pub mod ifmap_forms
