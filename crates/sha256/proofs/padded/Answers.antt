-- `padded`: the table is the schedule of the padding, by computation.
use Rattle.padding.specs.Sha2.{expanded, compress}
use Rattle.padding.specs.Padding.{padding, ending, zeros, blocks}
use Rattle.padding.specs.Words.{run, bytes, number}
use Rattle.sha256.proofs.padded.Goals as goal

pub returns : goal.returns
unfolding compress expanded run number padding ending zeros blocks bytes
returns c = c.all_rounds.ensures
