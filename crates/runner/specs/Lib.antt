pub mod Answered
pub mod Code
pub mod Demand3
pub mod Reports
