pub mod Code
pub mod Demand3
pub mod LosesNothing
pub mod Reports
pub mod Texts
