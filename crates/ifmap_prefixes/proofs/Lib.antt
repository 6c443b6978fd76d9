pub mod Adding
pub mod Looking
pub mod RootRows
pub mod Walking
