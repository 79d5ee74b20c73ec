-- `load_padded`: the table is the padding of 40 bytes, as the definitions compute it.
use Rattle.padding.specs.Padding.{padding, ending, zeros, blocks}
use Rattle.padding.specs.Words.{bytes}
use Rattle.sha1_hash.proofs.load_padded.Goals as goal

pub returns : goal.returns
unfolding padding ending zeros blocks bytes
returns c = c.load.ensures
