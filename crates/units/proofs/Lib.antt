pub mod Ranges
pub mod Amounts
pub mod Numbers
pub mod Granting
pub mod Held
pub mod Links
