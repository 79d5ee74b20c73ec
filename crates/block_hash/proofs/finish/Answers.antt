-- `finish`: what `pad` writes are the last blocks, which fit the array, and what they give is stored whole.
use Rattle.std.proofs.Common.{ℕ, length, ap, ◌∙◌, arith}
use Rattle.std.proofs.Math.ListN.{length-replicate}
use Rattle.padding.proofs.Laws.{room_last, last_blocks}
use Rattle.block_hash.proofs.Laws.{last_two}
use Rattle.block_hash.proofs.finish.Goals as goal

pub pad-requires : goal.pad-requires
pad-requires g c =
    let h = g.H.BlockHash in
    let fits = g.met.H.BlockHash.field_fits in (
      omega (arith, fits),
      rw (c.BLOCK_SIZE-block.ensures, c.FIELD_SIZE-field.ensures)
          (room_last h.BLOCK_SIZE h.FIELD_SIZE c.args.n c.args.rest.now _ (omega (arith, fits))
          (omega (arith, last_two h.BLOCK_SIZE h.FIELD_SIZE c.args.n (length c.args.rest.now) fits.1 c.requires.rest, length-replicate {A = ℕ} g.row.LAST 0))),
    )

pub returns : goal.returns
returns g c =
    let h = g.H.BlockHash in
    let fits = g.met.H.BlockHash.field_fits in
    let put = rw (c.BLOCK_SIZE-block.ensures, c.FIELD_SIZE-field.ensures) at c.pad.ensures in
    let taken = rw (c.BLOCK_SIZE-block.ensures, c.FIELD_SIZE-field.ensures) at c.absorb-v.ensures in
    c.store.ensures ∙ ap h.output (last_blocks h.compress h.BLOCK_SIZE h.FIELD_SIZE c.args.n c.args.rest.now _ (h.value c.args.s) (omega (arith, fits)) c.requires.rest
    (omega (arith, last_two h.BLOCK_SIZE h.FIELD_SIZE c.args.n (length c.args.rest.now) fits.1 c.requires.rest, length-replicate {A = ℕ} g.row.LAST 0)) put taken)
