pub mod Digests
pub mod Examples
