pub mod Code
pub mod Demand3
pub mod Records
pub mod Reports
