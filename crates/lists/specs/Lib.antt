pub mod Cut
pub mod Search
pub mod Counting
pub mod At
pub mod Shown
pub mod Broken
