pub mod Code
pub mod Reports
