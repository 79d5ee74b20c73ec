use Rattle.std.proofs.Common.{◌≡◌, ◌+◌, ◌*◌, refl, arith, rules}
use Rattle.padding.specs.Words.{run}
use Rattle.padding.specs.Sha2.{next, expanded}
use Rattle.padding.proofs.Laws.{grown_all, grown_four, next_take}
use Rattle.sha256.specs.Sha256.{P}
use Rattle.sha256.proofs.expand.Goals as goal

pub loop-i-init : goal.loop-i-init
unfolding run
loop-i-init c = record { full = search rules; words = refl }

pub loop-i-preserved : goal.loop-i-preserved
loop-i-preserved c =
    let i = c.loop-i.i in
    grown_four (next P) 64 (i * 4) ((i + 1) * 4) _ _ _ _ _ _ (next_take P) (omega arith) (omega arith)
    c.expand_one.ensures
    c.expand_one-in-loop-i.ensures
    c.expand_one-in-loop-i-2.ensures
    c.expand_one-in-loop-i-3.ensures
    c.loop-i.invariant

pub returns : goal.returns
unfolding expanded
returns c = let h : c.loop-i.i ≡ 12 = omega arith in grown_all (next P) 64 48 _ _ refl (rw h at c.loop-i.invariant)
