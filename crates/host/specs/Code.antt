-- What the contracts of inner functions say, and laws of the whole calls. Nothing here has to be believed. Assumes nothing.
pub mod Packing
pub mod Whole
