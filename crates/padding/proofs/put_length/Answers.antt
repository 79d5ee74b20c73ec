-- `padding::put_length` meets its contract. Assumes nothing.
use Rattle.padding.proofs.Laws.{bits_apart}
use Rattle.wire.proofs.Laws.{then, room_first, room_then}
use Rattle.padding.proofs.put_length.Goals as goal

pub put_be-a-requires : goal.put_be-a-requires
put_be-a-requires c =
    room_first _ _ (rw (bits_apart c.args.l c.args.n c.requires.0) at c.requires.1)

pub put_fill-requires : goal.put_fill-requires
put_fill-requires c =
    room_then _ _ (rw (bits_apart c.args.l c.args.n c.requires.0) at c.requires.1) c.put_be-a.ensures

pub returns : goal.returns
returns c =
    rw (bits_apart c.args.l c.args.n c.requires.0) (then c.put_be-a.ensures c.put_fill.ensures)
