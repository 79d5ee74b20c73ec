pub mod Bank
pub mod Named
pub mod Registers
pub mod Examples
