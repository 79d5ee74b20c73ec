-- `padding::pad` meets its contract. Assumes nothing.
use Rattle.wire.proofs.Laws.{then}
use Rattle.padding.specs.Padding.{ending}
use Rattle.padding.proofs.pad.Goals as goal

pub returns : goal.returns
unfolding ending
returns c = then c.put_bytes-a.ensures (then c.put_fill-b.ensures (then c.put_fill-c.ensures c.put_length.ensures))
