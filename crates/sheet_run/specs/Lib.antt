pub mod Lines
pub mod Request
