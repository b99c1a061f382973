pub mod Laws
pub mod LowestWrong
