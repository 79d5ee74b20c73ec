-- `all_rounds`: after i turns v is the working variables after i * 4 rounds.
use Rattle.std.proofs.Common.{◌≡◌, ◌*◌}
use Rattle.padding.specs.Words.{run}
use Rattle.padding.specs.Sha2.{step}
use Rattle.sha256.specs.Sha256.{P, value}
use Rattle.sha256.proofs.all_rounds.Given as goal

abbrev pub invariant-loop-i : goal.invariant-loop-i
invariant-loop-i l = value l.v ≡ run (step P l.w) (l.i * 4) (value l.initial.v)
