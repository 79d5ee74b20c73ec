-- The loop's invariant: the lines of the registers below this one are written. Assumes nothing.
use Rattle.wire.specs.Bytes.{Put}
use Rattle.bank.specs.Named.{row}
use Rattle.printed_lines.specs.Lines.{lines_first}
use Rattle.printed_lines.proofs.put_bank.Given as goal

abbrev pub invariant-loop-number : goal.invariant-loop-number
invariant-loop-number l = Put l.initial.d l.at (lines_first (row l.bank) l.number l.registers.bytes) l.p l.d
