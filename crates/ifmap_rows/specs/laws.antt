-- Laws on lists in a strict order, which crates above cite.
pub mod RisingLaws
pub mod JoiningLaws
