-- the laws of banks, for the crates above too
pub mod Laws
-- the banks by the code's names
pub mod Names
-- what is left of each loop, and where a bank's bytes stand
pub mod Loops
