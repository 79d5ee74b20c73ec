-- `all_rounds`: the four quarters are the eighty rounds, and `feed` joins them with the hash value before.
use Rattle.std.proofs.Common.{ap, ◌∙◌}
use Rattle.padding.specs.Words.{ch, maj, parity}
use Rattle.sha1_hash.specs.declared.State.{State}
use Rattle.sha1_hash.specs.Sha1.{join, rounds}
use Rattle.sha1_hash.proofs.Laws.{quarters}
use Rattle.sha1_hash.proofs.all_rounds.Goals as goal

pub returns : goal.returns
unfolding rounds
returns c =
    c.feed.ensures ∙ ap (λ (x : State). join x c.args.s) (quarters c.args.w.now c.args.s _ _ _ _ (c.twenty_rounds-a.ensures (ch 32) (λ x y z r e. e)) (c.twenty_rounds-b.ensures parity (λ x y z r e. e)) (c.twenty_rounds-c.ensures maj (λ x y z r e. e)) (c.twenty_rounds-d.ensures parity (λ x y z r e. e)))
