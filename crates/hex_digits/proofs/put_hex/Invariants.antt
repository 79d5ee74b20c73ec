-- `hex_digits::put_hex` meets its contract. The loop's invariant: what is left to write, the digits from byte i on, completes what was asked. Assumes nothing.
use Rattle.std.proofs.Common.{◌≡◌, ◌+◌, ◌*◌, drop}
use Rattle.std.proofs.lemmas.List.Edits.{sets}
use Rattle.hex_digits.specs.Hex.{hex_of}
use Rattle.hex_digits.proofs.put_hex.Given as goal

abbrev pub invariant-loop-i : goal.invariant-loop-i
invariant-loop-i l = sets l.d (l.at + l.i * 2) (hex_of (drop l.i l.s)) ≡ sets l.initial.d l.at (hex_of l.s)
