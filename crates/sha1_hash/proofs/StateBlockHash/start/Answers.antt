-- `start`: the five words are the standard's.
use Rattle.std.proofs.Common.{refl}
use Rattle.sha1_hash.specs.Sha1.{H₀}
use Rattle.sha1_hash.proofs.StateBlockHash.start.Goals as goal

pub returns : goal.returns
unfolding H₀
returns c = refl
