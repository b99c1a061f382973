pub mod Frames
pub mod Rounds
pub mod Slices
