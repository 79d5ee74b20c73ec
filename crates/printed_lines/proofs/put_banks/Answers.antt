use Rattle.wire.proofs.Laws.{left_all, left_none, left_more, room_first}
use Rattle.printed_lines.specs.Lines.{banks_lines}
use Rattle.printed_lines.proofs.put_banks.Goals as goal

pub loop-bank-init : goal.loop-bank-init
loop-bank-init c = rw (c.into_iter-bank-iterator.ensures.into_iter_gives, c.active-bank-items.ensures) (left_all c.requires)

pub put_bank-p-requires : goal.put_bank-p-requires
unfolding banks_lines
put_bank-p-requires c = room_first _ _ (rw c.in-Some.ensures.steps at c.loop-bank.invariant.room)

pub loop-bank-preserved : goal.loop-bank-preserved
unfolding banks_lines
loop-bank-preserved c = left_more _ _ (rw c.in-Some.ensures.steps at c.loop-bank.invariant) c.put_bank-p.ensures

pub returns : goal.returns
unfolding banks_lines
returns c = left_none (rw c.in-None.ensures.steps.0 at c.loop-bank.invariant)
