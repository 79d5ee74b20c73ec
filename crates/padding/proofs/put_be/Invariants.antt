-- `padding::put_be` meets its contract. The loop's invariant: what is left to write, the i higher bytes of v, completes what was asked. Assumes nothing.
use Rattle.std.proofs.Common.{◌≡◌}
use Rattle.std.proofs.lemmas.List.Edits.{sets}
use Rattle.padding.specs.Words.{bytes}
use Rattle.padding.proofs.put_be.Given as goal

abbrev pub invariant-loop-i : goal.invariant-loop-i
invariant-loop-i l = sets l.d l.at (bytes l.i l.v) ≡ sets l.initial.d l.at (bytes l.w l.n)
