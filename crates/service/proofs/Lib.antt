pub mod Answers
pub mod Readings
pub mod Openings
pub mod Writes
