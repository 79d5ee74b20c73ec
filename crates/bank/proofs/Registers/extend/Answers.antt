use Rattle.std.proofs.Common.{rules}
use Rattle.bank.proofs.Loops.{extend_register}
use Rattle.bank.proofs.Registers.extend.Goals as goal

pub returns-in-Sha1 : goal.returns-in-Sha1
returns-in-Sha1 c =
    extend_register (record { number = c.number.ensures.value; low = c.number.ensures.low; size = c.size-size.ensures; from = c.from.ensures }) c.args.self.now.bytes c.args.digest.now c.extend.new.register (search rules) (rw c.in-Sha1.is c.extend.ensures)

pub returns-in-Sha256 : goal.returns-in-Sha256
returns-in-Sha256 c =
    extend_register (record { number = c.number.ensures.value; low = c.number.ensures.low; size = c.size-size.ensures; from = c.from.ensures }) c.args.self.now.bytes c.args.digest.now c.extend-in-Sha256.new.register (search rules) (rw c.in-Sha256.is c.extend-in-Sha256.ensures)
