-- What the inner functions ask, and the laws of their ways.
pub mod Packing
