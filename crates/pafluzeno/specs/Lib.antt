pub mod Arriving
pub mod Checks
pub mod Made
pub mod Counted
pub mod Writing
pub mod Replying
pub mod Tallies
pub mod Reading
