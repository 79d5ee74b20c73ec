-- `hex_digits::hex_text` meets its contract: the digits are text, so no refusal comes. Assumes nothing.
use Rattle.std.proofs.Common.{arith}
use Rattle.hex_digits.proofs.Laws.{no_fault, showing}
use Rattle.hex_digits.proofs.hex_text.Goals as goal

pub unreachable-requires : goal.unreachable-requires
unreachable-requires c = no_fault _ c.args.s.now (grind (arith, showing)) (λ i. (c.type_inv.s i).fits) c.in_default.ensures.cases.0
