-- `store`: the first four words and then the fifth are the hash value's bytes, and 20 bytes are all of them.
use Rattle.sha1_hash.proofs.Laws.{room_four, room_fifth, put_output}
use Rattle.sha1_hash.proofs.StateBlockHash.store.Goals as goal

pub put_four-at-requires : goal.put_four-at-requires
put_four-at-requires c = room_four c.requires _ _ _ _

pub put_word-requires : goal.put_word-requires
put_word-requires c = room_fifth c.requires _ _ _ _ _ c.put_four-at.ensures

pub returns : goal.returns
returns c = put_output c.args.self c.requires c.put_four-at.ensures c.put_word.ensures
