-- The loop's invariant: extending in the banks that are still to come completes what was asked. Assumes nothing.
use Rattle.std.proofs.Common.{◌≡◌, map}
use Rattle.bank.specs.Bank.{banks}
use Rattle.bank.specs.Named.{row}
use Rattle.bank.specs.Registers.{extend_all, digests_in}
use Rattle.bank.proofs.Registers.extend_active.Given as goal

abbrev pub invariant-loop-bank : goal.invariant-loop-bank
invariant-loop-bank l = extend_all (map row l.bank-iterator) l.register (digests_in (map row l.bank-iterator) l.digests.bytes) l.self.bytes ≡ extend_all (banks l.bitmap) l.register (digests_in (banks l.bitmap) l.digests.bytes) l.initial.self.bytes
