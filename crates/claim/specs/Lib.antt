pub mod Trace
pub mod Claim
pub mod Execution
pub mod Resting
