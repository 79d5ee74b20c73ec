use Rattle.std.proofs.Common.{ap, ◌∙◌, map, List, ℕ}
use Rattle.bank.specs.Named.{row}
use Rattle.bank.specs.Registers.{extend, extend_all, digests_in}
use Rattle.bank.proofs.Registers.extend_active.Goals as goal

pub loop-bank-preserved : goal.loop-bank-preserved
unfolding extend_all
loop-bank-preserved c =
    ap (extend_all (map row c.next.new.self) c.args.register (digests_in (map row c.next.new.self) c.args.digests.now.bytes))
    (c.extend.ensures ∙ ap (λ (d : List ℕ). extend (row c.in-Some.bank) c.args.register d c.loop-bank.self.bytes) c.of.ensures)
    ∙ (rw c.in-Some.ensures.steps at c.loop-bank.invariant)

pub returns : goal.returns
unfolding extend_all
returns c = rw c.in-None.ensures.steps.0 at c.loop-bank.invariant
