pub mod Code
pub mod Reports
pub mod Texts
