use Rattle.std.proofs.Common.{◌≡◌, arith}
use Rattle.wire.proofs.Laws.{nothing}
use Rattle.printed_lines.specs.Lines.{lines_first}
use Rattle.printed_lines.proofs.Laws.{room_line, put_line}
use Rattle.printed_lines.proofs.put_bank.Goals as goal

pub loop-number-init : goal.loop-number-init
unfolding lines_first
loop-number-init c = nothing _ _

pub put_register-p-requires : goal.put_register-p-requires
put_register-p-requires c =
    let e : c.unwrap-register.result ≡ c.loop-number.number = grind arith in
    rw e (room_line _ _ _ (omega arith) c.requires c.loop-number.invariant)

pub loop-number-preserved : goal.loop-number-preserved
loop-number-preserved c =
    let e : c.unwrap-register.result ≡ c.loop-number.number = grind arith in
    put_line _ _ _ c.loop-number.invariant (rw e at c.put_register-p.ensures)
