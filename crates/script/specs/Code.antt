-- What the contracts of inner functions say. Nothing here has to be believed: the contracts of the calls cite the definitions, and the proofs tie these
-- to them. Assumes nothing.
pub mod Clearing
pub mod Forms
pub mod Root
pub mod TableTests
