pub mod Anyway
pub mod Given
pub mod Numbers
pub mod Places
pub mod Trials
