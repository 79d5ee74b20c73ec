use Rattle.std.proofs.Common.{◌≡◌, ◌+◌, ◌*◌, refl, ap, ◌∙◌, arith}
use Rattle.padding.specs.Words.{run}
use Rattle.padding.specs.Sha2.{step, rounds, join}
use Rattle.padding.proofs.Laws.{run_four}
use Rattle.sha256.specs.Sha256.{P, value}
use Rattle.sha256.proofs.all_rounds.Goals as goal

pub loop-i-init : goal.loop-i-init
unfolding run
loop-i-init c = refl

pub loop-i-preserved : goal.loop-i-preserved
loop-i-preserved c =
    let i = c.loop-i.i in
    let e : i * 4 + 4 ≡ (i + 1) * 4 = omega arith in
    c.four_rounds-v.ensures ∙ rw e at (run_four (step P c.args.w.now) (i * 4) (value c.args.s) c.loop-i.invariant)

pub returns : goal.returns
unfolding rounds
returns c =
    let h : c.loop-i.i ≡ 16 = omega arith in
    c.feed.ensures ∙ ap (λ x. join P x (value c.args.s)) (rw h at c.loop-i.invariant)
