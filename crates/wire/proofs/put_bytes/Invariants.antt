-- `wire::put_bytes` meets its contract. The loop's invariant: what is left to write, s from i on, completes what was asked. Assumes nothing.
use Rattle.std.proofs.Common.{◌≡◌, ◌+◌, drop}
use Rattle.std.proofs.lemmas.List.Edits.{sets}
use Rattle.wire.proofs.put_bytes.Given as goal

abbrev pub invariant-loop-i : goal.invariant-loop-i
invariant-loop-i l = sets l.d (l.at + l.i) (drop l.i l.s) ≡ sets l.initial.d l.at l.s
