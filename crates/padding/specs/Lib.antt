pub mod Words
pub mod Padding
pub mod Sha2
