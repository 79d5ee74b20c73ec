use Rattle.std.proofs.Common.{arith}
use Rattle.bank.specs.Registers.{reset_first}
use Rattle.wire.proofs.Laws.{nothing}
use Rattle.bank.proofs.Loops.{room_register, put_register}
use Rattle.bank.proofs.put_reset.Goals as goal

pub loop-register-init : goal.loop-register-init
unfolding reset_first
loop-register-init c = nothing _ _

pub put_fill-p-requires : goal.put_fill-p-requires
put_fill-p-requires c = room_register _ _ _ _ c.size.ensures (omega arith) c.requires c.loop-register.invariant

pub loop-register-preserved : goal.loop-register-preserved
loop-register-preserved c = put_register _ _ _ _ c.size.ensures c.reset.ensures c.loop-register.invariant c.put_fill-p.ensures
