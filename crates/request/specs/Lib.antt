pub mod Request
pub mod Inner
