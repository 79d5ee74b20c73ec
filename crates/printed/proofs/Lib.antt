-- the whole output
pub mod Prints
-- what is printed, case by case
pub mod Answers
-- the output for the header alone
pub mod Examples
-- the slice that is printed takes the whole log
pub mod Whole
