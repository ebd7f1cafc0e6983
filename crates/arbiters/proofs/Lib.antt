pub mod ServingLine
pub mod DroppingEntries
pub mod ArrivingMessage
pub mod TellingArbiter
pub mod LendingArbiter
pub mod LendingExamples
pub mod Links
