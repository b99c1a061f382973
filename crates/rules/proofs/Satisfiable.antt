pub mod Disjoint
pub mod Laws
