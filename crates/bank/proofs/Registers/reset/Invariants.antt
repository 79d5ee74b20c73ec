-- The loop's invariant: the reset values of the banks from this one on find room, and writing them completes what was asked. Assumes nothing.
use Rattle.std.proofs.Common.{◌≡◌, drop, map}
use Rattle.std.proofs.lemmas.List.Edits.{sets}
use Rattle.wire.specs.Bytes.{Room}
use Rattle.bank.specs.Named.{row}
use Rattle.bank.specs.Registers.{reset_of, reset_all}
use Rattle.bank.proofs.Registers.reset.Given as goal

abbrev pub invariant-loop-bank : goal.invariant-loop-bank
invariant-loop-bank l = Room l.bytes l.at (reset_of (map row (drop l.bank-index l.bank-items))) × (sets l.bytes l.at (reset_of (map row (drop l.bank-index l.bank-items))) ≡ reset_all)
