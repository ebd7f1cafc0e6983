pub mod Outcomes
pub mod Links
