use Rattle.wire.proofs.Laws.{then}
use Rattle.printed_lines.specs.Lines.{numbered}
use Rattle.printed_lines.proofs.put_numbered.Goals as goal

pub returns : goal.returns
unfolding numbered
returns c = then (rw c.as_bytes.ensures.value at c.put_bytes-a.ensures) c.put_decimal.ensures
