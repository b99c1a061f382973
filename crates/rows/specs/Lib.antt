pub mod Code
pub mod Decision
pub mod Known
pub mod Marks
pub mod Promise
