pub mod View
pub mod Inner
