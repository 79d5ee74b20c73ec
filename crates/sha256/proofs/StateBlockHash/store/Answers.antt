-- `store`: the first four words and then the others are the hash value's bytes, and 32 bytes are all of them.
use Rattle.sha256.specs.Sha256.{value}
use Rattle.sha256.proofs.Laws.{room_four, room_others, put_output}
use Rattle.sha256.proofs.StateBlockHash.store.Goals as goal

pub put_four-at-requires : goal.put_four-at-requires
put_four-at-requires c = room_four c.requires _ _ _ _

pub put_four-requires : goal.put_four-requires
put_four-requires c = room_others c.requires _ _ _ _ _ _ _ _ c.put_four-at.ensures

pub returns : goal.returns
returns c = put_output (value c.args.self) c.requires c.put_four-at.ensures c.put_four.ensures
