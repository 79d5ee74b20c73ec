-- `start`: the eight words are the standard's.
use Rattle.sha256.specs.Sha256.{H₀}
use Rattle.std.proofs.Common.{refl}
use Rattle.sha256.proofs.StateBlockHash.start.Goals as goal

pub returns : goal.returns
unfolding H₀
returns c = refl
