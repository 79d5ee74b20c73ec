-- How long a line is. Assumes nothing.
use Rattle.std.proofs.Common.{◌≡◌, ℕ, ◌+◌, ◌*◌, List, length, length-append, arith}
use Rattle.hex_digits.proofs.Laws.{length_hex}
use Rattle.vectors.specs.Line.{line_of}

pub length_line : (label name digest : List ℕ) → length (line_of label name digest) ≡ length label + length name + length digest * 2 + 3
length_line label name digest = simp (length-append, length_hex) (omega arith)
