pub mod Checking
pub mod Demand3
pub mod Evaluation
pub mod Running
pub mod Satisfiable
pub mod Symbolic
pub mod Typings
