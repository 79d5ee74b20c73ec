-- `extend`: 40 bytes and their padding are one block, and what it gives covers the register.
use Rattle.std.proofs.Common.{◌++◌, ◌∙◌, arith, length-append}
use Rattle.sha1_hash.proofs.Laws.{forty}
use Rattle.sha1_hash.proofs.extend.Goals as goal

pub returns : goal.returns
returns c =
    let m = c.args.register.now ++ c.args.digest.now in
    c.store.ensures ∙ forty m _ (omega (arith, length-append c.args.register.now c.args.digest.now)) c.joined-s.ensures
