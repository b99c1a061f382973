pub mod Walk
pub mod Words
