use Rattle.std.proofs.Common.{ap, ◌∙◌, map}
use Rattle.bank.specs.Named.{row}
use Rattle.bank.specs.Registers.{hash_all}
use Rattle.bank.proofs.Digests.hash_active.Goals as goal

pub loop-bank-preserved : goal.loop-bank-preserved
unfolding hash_all
loop-bank-preserved c =
    ap (hash_all (map row c.next.new.self) c.args.message.now) c.hash.ensures ∙ (rw c.in-Some.ensures.steps at c.loop-bank.invariant)

pub returns : goal.returns
unfolding hash_all
returns c = rw c.in-None.ensures.steps.0 at c.loop-bank.invariant
