pub mod Marked
pub mod ExceedingExample
