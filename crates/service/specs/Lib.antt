pub mod Status
pub mod Answer
pub mod State
pub mod Reading
pub mod Opening
