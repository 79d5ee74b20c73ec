-- `registers::show` meets its contract: what `print` wrote ends in its buffer. Assumes nothing.
use Rattle.std.proofs.Common.{sym, length-take-le}
use Rattle.printed.proofs.Prints.{written_fits}
use Rattle.registers.proofs.show.Goals as goal

pub slice_bounds-out-end : goal.slice_bounds-out-end
slice_bounds-out-end g c = written_fits _ _ c.print-k.ensures

pub slice_bounds-write_all-end : goal.slice_bounds-write_all-end
slice_bounds-write_all-end g c = sym (length-take-le _ _ (written_fits _ _ c.print-k.ensures))
