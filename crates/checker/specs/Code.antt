-- What the contracts of inner functions say. Nothing here has to be believed: the contract of `check` cites `check_table`, and the proofs tie these to it.
-- Assumes nothing.
pub mod Going
pub mod Whole
