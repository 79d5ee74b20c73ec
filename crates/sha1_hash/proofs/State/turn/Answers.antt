-- `State::turn`: std's rotations to the left are the standard's.
use Rattle.std.proofs.Common.{lit<}
use Rattle.sha1_hash.proofs.Laws.{rotated}
use Rattle.sha1_hash.proofs.State.turn.Goals as goal

pub returns : goal.returns
returns c = cc (rotated 5 c.args.self.a (lit< tt) (lit< tt), rotated 30 c.args.self.b (lit< tt) (lit< tt))
