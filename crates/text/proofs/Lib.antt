pub mod Writing
pub mod Output
pub mod OneSpelling
