-- What the contracts of the reader's and the writer's parts say. Nothing here has to be believed: the contracts of `read` and `write` cite the grammar,
-- `Reading` and `Writing`, and the proofs tie these to them. Assumes nothing.
pub mod Named
pub mod Output
pub mod Scan
pub mod Steps
