pub mod Sha1
pub mod Sha256
pub mod Entry
