pub mod Places
pub mod Terms
pub mod Search
pub mod References
pub mod Atoms
