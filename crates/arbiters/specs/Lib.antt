pub mod Telling
pub mod Lent
pub mod Inner
