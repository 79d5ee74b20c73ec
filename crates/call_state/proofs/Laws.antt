-- Facts of statuses and of bytes that encode a state. Assumes nothing.
use Rattle.std.proofs.Common.{true, List, ◌≡◌, ℕ, ◌≤◌, arith, length}
use Rattle.service.specs.declared.Status.{Status}
use Rattle.service.specs.Status.{number}
use Rattle.layout.specs.Layout.{state_length, encodes}

-- no status's number is above 11
pub number_small : (s : Status) → number s ≤ 11
number_small s = grind arith

-- bytes that encode a state have its length
pub length_of : (state : List ℕ) → encodes state ≡ true → length state ≡ state_length
unfolding encodes
length_of state h = grind arith
