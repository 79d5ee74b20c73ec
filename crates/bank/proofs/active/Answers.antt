use Rattle.bank.proofs.Names.{banks_named}
use Rattle.bank.proofs.active.Goals as goal

pub returns : goal.returns
returns c = banks_named c.args.bitmap
