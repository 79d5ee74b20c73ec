-- `expand_one`: std's rotation to the left is the standard's.
use Rattle.std.proofs.Common.{ap, ◌∙◌, lit<, ◌+◌, set}
use Rattle.sha1_hash.proofs.Laws.{rotated}
use Rattle.sha1_hash.proofs.expand_one.Goals as goal

pub returns : goal.returns
returns c = ap (set c.args.w.now (c.args.t + 16)) (c.rotate_left.ensures ∙ rotated 1 _ (lit< tt) (lit< tt))
