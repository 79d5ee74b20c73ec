use Rattle.wire.proofs.Laws.{then}
use Rattle.printed.specs.Printed.{replayed}
use Rattle.printed.proofs.put_replayed.Goals as goal

pub returns : goal.returns
unfolding replayed
returns c = then c.put_entries-a.ensures c.put_banks.ensures
