pub mod Conjuncts
pub mod Deciding
pub mod Keeping
pub mod Promised
pub mod Recalling
pub mod Whole
