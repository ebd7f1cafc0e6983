pub mod Made
pub mod Singleton
pub mod Uniform
pub mod Cube
pub mod Inner
