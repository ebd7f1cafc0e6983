pub mod OwnSteps
pub mod Tallies
pub mod AddedUp
