-- `expand`: after i turns the first i * 4 + 16 words are the schedule so far.
use Rattle.std.proofs.Common.{◌*◌, take}
use Rattle.padding.proofs.Laws.{Grown}
use Rattle.sha1_hash.specs.Sha1.{next}
use Rattle.sha1_hash.proofs.expand.Given as goal

abbrev pub invariant-loop-i : goal.invariant-loop-i
invariant-loop-i l = Grown next 80 (l.i * 4) (take 16 l.initial.w) l.w
