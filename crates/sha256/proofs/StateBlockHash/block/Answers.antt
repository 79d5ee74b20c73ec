-- `block`: the block's words, expanded and worked through, are its compression.
use Rattle.std.proofs.Common.{arith}
use Rattle.sha256.specs.Sha256.{value}
use Rattle.sha256.proofs.Laws.{compressed}
use Rattle.sha256.proofs.StateBlockHash.block.Goals as goal

pub returns : goal.returns
returns c =
    compressed c.args.w.now _ _ c.args.m.now (value c.args.self) _ (omega arith) c.load.ensures c.expand.ensures c.all_rounds.ensures
