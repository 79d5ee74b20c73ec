use Rattle.std.proofs.Common.{sym, ◌∙◌, arith}
use Rattle.padding.specs.Padding.{absorbed}
use Rattle.block_hash.proofs.Laws.{absorbed_step, absorbed_none}
use Rattle.block_hash.proofs.absorb_with.Goals as goal

pub loop-b-preserved : goal.loop-b-preserved
loop-b-preserved g c =
    let h = g.H.BlockHash in
    let came = c.in-Some.ensures.steps in
    let fits = g.met.H.BlockHash.field_fits in (
      came.0 ∙ c.loop-b.invariant.0,
      absorbed_step h.compress h.BLOCK_SIZE _ (absorbed h.compress h.BLOCK_SIZE c.args.m.now (h.value c.args.s)) (omega (arith, fits)) came.1.1 c.loop-b.invariant.0 came.1.0 c.block-v.ensures c.loop-b.invariant.1,
    )

pub returns : goal.returns
returns g c =
    let h = g.H.BlockHash in
    sym (absorbed_none h.compress h.BLOCK_SIZE _ _ (omega (arith, c.in-None.ensures.steps.1.0, c.loop-b.invariant.0))) ∙ c.loop-b.invariant.1
