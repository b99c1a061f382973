pub mod Atoms
pub mod Listed
pub mod Ordered
pub mod Patterns
pub mod Searching
pub mod Steady
pub mod Words
