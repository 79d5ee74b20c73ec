pub mod History
pub mod Replayed
