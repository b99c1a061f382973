pub mod Answers
pub mod Code
pub mod Flat
pub mod Limits
pub mod Rows
pub mod Table
pub mod Tests
pub mod Tree
