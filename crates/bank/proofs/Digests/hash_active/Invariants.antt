-- The loop's invariant: the digests of the banks that are still to come complete what was asked. Assumes nothing.
use Rattle.std.proofs.Common.{◌≡◌, map}
use Rattle.bank.specs.Bank.{banks}
use Rattle.bank.specs.Named.{row}
use Rattle.bank.specs.Registers.{hash_all}
use Rattle.bank.proofs.Digests.hash_active.Given as goal

abbrev pub invariant-loop-bank : goal.invariant-loop-bank
invariant-loop-bank l = hash_all (map row l.bank-iterator) l.message l.self.bytes ≡ hash_all (banks l.bitmap) l.message l.initial.self.bytes
