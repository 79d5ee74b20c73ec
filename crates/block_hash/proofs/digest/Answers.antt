-- `digest`: the whole blocks and then the rest, padded, are the padded message.
use Rattle.std.proofs.Common.{◌*◌, ◌/◌, length, ap, ◌∙◌, arith}
use Rattle.padding.proofs.Laws.{in_parts, lent_rest}
use Rattle.block_hash.proofs.digest.Goals as goal

pub returns : goal.returns
returns g c =
    let h = g.H.BlockHash in
    let m = c.args.m.now in
    let fits = g.met.H.BlockHash.field_fits in
    let whole = in_parts h.compress h.BLOCK_SIZE h.FIELD_SIZE m h.initial (omega (arith, fits)) in
    c.finish.ensures ∙ ap h.output (rw (c.BLOCK_SIZE-block.ensures, lent_rest (length m / h.BLOCK_SIZE * h.BLOCK_SIZE) m, c.absorb.ensures, c.start.ensures) whole)
