-- `block`: the block's words, expanded and worked through, are its compression.
use Rattle.std.proofs.Common.{arith}
use Rattle.sha1_hash.proofs.Laws.{compressed}
use Rattle.sha1_hash.proofs.StateBlockHash.block.Goals as goal

pub returns : goal.returns
returns c =
    compressed c.args.w.now _ _ c.args.m.now c.args.self _ (omega arith) c.load.ensures c.expand.ensures c.all_rounds.ensures
