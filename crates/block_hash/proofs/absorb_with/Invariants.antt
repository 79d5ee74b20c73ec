-- `absorb_with`: what is to come leads from v to where m leads from s.
use Rattle.std.proofs.Common.{◌≡◌}
use Rattle.std.specs.Slice.Iter.{chunks_exact_rest, chunks_exact_size}
use Rattle.padding.specs.Padding.{absorbed}
use Rattle.block_hash.proofs.absorb_with.Given as goal

abbrev pub invariant-loop-b : goal.invariant-loop-b
invariant-loop-b g l =
    let h = g.H.BlockHash in
    (chunks_exact_size l.b-iterator ≡ h.BLOCK_SIZE)
    × (absorbed h.compress h.BLOCK_SIZE (chunks_exact_rest l.b-iterator) (h.value l.v) ≡ absorbed h.compress h.BLOCK_SIZE l.m (h.value l.initial.v))
