pub mod Tests
pub mod Values
