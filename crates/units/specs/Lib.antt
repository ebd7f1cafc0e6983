pub mod Units
pub mod Granted
