pub mod Member
pub mod Sets
pub mod Sizes
