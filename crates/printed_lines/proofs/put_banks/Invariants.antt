-- The loop's invariant: what is left to write are the lines of the banks that are still to come. Assumes nothing.
use Rattle.std.proofs.Common.{map}
use Rattle.wire.proofs.Laws.{Left}
use Rattle.bank.specs.Bank.{banks}
use Rattle.bank.specs.Named.{row}
use Rattle.printed_lines.specs.Lines.{banks_lines}
use Rattle.printed_lines.proofs.put_banks.Given as goal

abbrev pub invariant-loop-bank : goal.invariant-loop-bank
invariant-loop-bank l = Left l.initial.d l.at (banks_lines (banks l.bitmap) l.registers.bytes) l.d l.p (banks_lines (map row l.bank-iterator) l.registers.bytes)
