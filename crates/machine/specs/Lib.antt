pub mod Opening
pub mod Performing
pub mod Doing
