pub mod Inside
pub mod Laws
pub mod Ranges
pub mod Room
