-- `wire::get_le` meets its contract. The loop's invariant: the bytes still to be read, with v behind them, spell the number. Assumes nothing.
use Rattle.std.proofs.Common.{◌≡◌, ◌+◌, ◌*◌, ◌^◌, length}
use Rattle.std.specs.Iterator.Adapters.{rev_source}
use Rattle.std.specs.Slice.Iter.{iter_rest}
use Rattle.wire.specs.Bytes.{unle, num}
use Rattle.wire.proofs.get_le.Given as goal

abbrev pub invariant-loop-byte : goal.invariant-loop-byte
invariant-loop-byte l = unle (iter_rest (rev_source l.byte-iterator)) + 256 ^ length (iter_rest (rev_source l.byte-iterator)) * l.v ≡ num l.s l.at l.w
