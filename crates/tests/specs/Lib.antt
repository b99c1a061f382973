pub mod Counts
pub mod Few
pub mod Lowest
pub mod Whole
