-- `registers::read_some` meets its contract. The invariant: a read that was interrupted took nothing. Assumes nothing.
use Rattle.std.specs.Io.KnownBytes.{Keeps}
use Rattle.registers.proofs.read_some.Given as goal

abbrev pub invariant-loop : goal.invariant-loop
invariant-loop g l = Keeps (g.R.Read.remaining l.initial.reader) (g.R.Read.remaining l.reader)
