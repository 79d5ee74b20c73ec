-- `padding::put_four` meets its contract. Assumes nothing.
use Rattle.std.proofs.Common.{rules}
use Rattle.wire.proofs.Laws.{then}
use Rattle.padding.proofs.put_four.Goals as goal

pub returns : goal.returns
returns c = search (rules, then)
