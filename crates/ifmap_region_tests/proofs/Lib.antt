pub mod GridLinks
pub mod PairLinks
