-- `wire::put_le` meets its contract. The loop's invariant: the bytes written so far, and then those of v, are those of n. Assumes nothing.
use Rattle.std.proofs.Common.{◌≡◌, ◌-◌, ◌++◌, length, take}
use Rattle.wire.specs.Bytes.{le}
use Rattle.wire.proofs.put_le.Given as goal

abbrev pub invariant-loop-byte : goal.invariant-loop-byte
invariant-loop-byte l = take l.byte-index l.byte-items ++ le (length l.byte-items - l.byte-index) l.v ≡ le l.w l.n
