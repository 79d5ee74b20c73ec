-- `expand`: after i turns the first i * 4 + 16 words are the schedule so far.
use Rattle.std.proofs.Common.{◌*◌, take}
use Rattle.padding.specs.Sha2.{next}
use Rattle.padding.proofs.Laws.{Grown}
use Rattle.sha256.specs.Sha256.{P}
use Rattle.sha256.proofs.expand.Given as goal

abbrev pub invariant-loop-i : goal.invariant-loop-i
invariant-loop-i l = Grown (next P) 64 (l.i * 4) (take 16 l.initial.w) l.w
