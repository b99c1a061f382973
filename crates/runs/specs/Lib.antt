pub mod Given
pub mod Outcome
