use Rattle.std.proofs.Common.{◌≡◌, refl, arith}
use Rattle.padding.specs.Words.{steps}
use Rattle.sha1_hash.proofs.Laws.{one_turn}
use Rattle.sha1_hash.proofs.twenty_rounds.Goals as goal

pub loop-i-init : goal.loop-i-init
unfolding steps
loop-i-init g c = λ h follows. refl

pub loop-i-preserved : goal.loop-i-preserved
loop-i-preserved g c = λ h follows.
    let l = c.loop-i in
    one_turn h c.args.k c.args.w.now c.args.t l.i c.args.s _ _ _ c.turn-v.ensures (follows _ _ _ _ c.f.ensures) (l.invariant h follows)

pub returns : goal.returns
returns g c = λ h follows. let e : c.loop-i.i ≡ 20 = omega arith in rw e at (c.loop-i.invariant h follows)
