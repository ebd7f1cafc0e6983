pub mod Good
pub mod Viewing
pub mod Storing
pub mod Ranging
pub mod Links
