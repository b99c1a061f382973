-- What the contracts of inner functions say. Nothing here has to be believed: the contract of `run` cites `Answered`, and the proofs tie these to it.
-- Assumes nothing.
pub mod Nodes
pub mod Turns
pub mod Whole
