-- The loop's invariant: the reset values of the registers below this one are written. Assumes nothing.
use Rattle.wire.specs.Bytes.{Put}
use Rattle.bank.specs.Named.{row}
use Rattle.bank.specs.Registers.{reset_first}
use Rattle.bank.proofs.put_reset.Given as goal

abbrev pub invariant-loop-register : goal.invariant-loop-register
invariant-loop-register l = Put l.initial.registers l.at (reset_first (row l.bank) l.register) l.p l.registers
