-- the turns of the loops that write lines
pub mod Laws
-- how long lines are
pub mod Lengths
-- the digits of a number spell it
pub mod Digits
