pub mod Stores
pub mod Steps
pub mod Fits
pub mod Runs
pub mod Tables
pub mod Kept
pub mod Good
pub mod Replays
pub mod Banks
-- a closed store stays, and what an accepted request answers
pub mod Closed
pub mod Demand3
