-- `four_rounds`: the table's constants are the standard's.
use Rattle.padding.specs.Sha2.{round}
use Rattle.sha256.specs.Sha256.{K, P}
use Rattle.sha256.proofs.Laws.{four}
use Rattle.sha256.proofs.four_rounds.Goals as goal

pub returns : goal.returns
unfolding K
returns c = four (round P) K c.args.w.now c.args.t c.turn.ensures c.turn-2.ensures c.turn-3.ensures c.turn-4.ensures
