use Rattle.std.proofs.Common.{rules, arith}
use Rattle.bank.specs.Registers.{reset_all}
use Rattle.bank.specs.Bank.{table}
use Rattle.bank.proofs.Laws.{length_reset_all}
use Rattle.bank.proofs.Loops.{banks_on, room_bank, room_on, put_on, put_end, put_table}
use Rattle.bank.proofs.Registers.reset.Goals as goal

pub loop-bank-init : goal.loop-bank-init
unfolding reset_all table
loop-bank-init c = (record { fits = omega (arith, length_reset_all) }, put_table _ (search rules))

pub put_reset-at-requires : goal.put_reset-at-requires
put_reset-at-requires c = room_bank (banks_on _ c.loop-bank.bank-index (omega arith)) c.loop-bank.invariant.0

pub loop-bank-preserved : goal.loop-bank-preserved
loop-bank-preserved c = (
  room_on (banks_on _ c.loop-bank.bank-index (omega arith)) c.loop-bank.invariant.0 c.put_reset-at.ensures,
  put_on (banks_on _ c.loop-bank.bank-index (omega arith)) c.put_reset-at.ensures c.loop-bank.invariant.1,
)

pub returns : goal.returns
returns c = put_end _ c.loop-bank.bank-index _ (omega arith) c.loop-bank.invariant.1
