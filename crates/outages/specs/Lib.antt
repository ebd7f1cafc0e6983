pub mod Outages
pub mod Answer
