pub mod Options
pub mod PairLaws
pub mod Pairs
