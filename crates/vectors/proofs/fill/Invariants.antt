-- `vectors::fill` meets its contract. The invariant: the first i bytes are the pattern's. Assumes nothing.
use Rattle.std.proofs.Common.{◌≡◌, take}
use Rattle.vectors.specs.Line.{pattern_of}
use Rattle.vectors.proofs.fill.Given as goal

abbrev pub invariant-loop-i : goal.invariant-loop-i
invariant-loop-i l = take l.i l.message ≡ pattern_of l.n l.i
