-- The loop's invariant: no active bank has been passed. Assumes nothing.
use Rattle.std.proofs.Common.{◌≡◌, length}
use Rattle.bank.specs.Named.{named}
use Rattle.bank.proofs.ActiveBanksIterator.next.Given as goal

abbrev pub invariant-loop-bank : goal.invariant-loop-bank
invariant-loop-bank l = (l.self-inside.bitmap ≡ l.initial.self-inside.bitmap) × (named l.self-inside.bitmap l.self-inside.rows.now ≡ named l.initial.self-inside.bitmap l.initial.self-inside.rows.now)

abbrev pub decreases-loop-bank : goal.decreases-loop-bank
decreases-loop-bank l = length l.self-inside.rows.now
