use Rattle.std.proofs.Common.{◌≡◌, ◌+◌, ◌*◌, refl, arith, rules}
use Rattle.padding.specs.Words.{run}
use Rattle.padding.proofs.Laws.{grown_all, grown_four}
use Rattle.sha1_hash.specs.Sha1.{next, expanded}
use Rattle.sha1_hash.proofs.Laws.{next_take}
use Rattle.sha1_hash.proofs.expand.Goals as goal

pub loop-i-init : goal.loop-i-init
unfolding run
loop-i-init c = record { full = search rules; words = refl }

pub loop-i-preserved : goal.loop-i-preserved
loop-i-preserved c =
    let i = c.loop-i.i in
    grown_four next 80 (i * 4) ((i + 1) * 4) _ _ _ _ _ _ next_take (omega arith) (omega arith)
    c.expand_one.ensures
    c.expand_one-in-loop-i.ensures
    c.expand_one-in-loop-i-2.ensures
    c.expand_one-in-loop-i-3.ensures
    c.loop-i.invariant

pub returns : goal.returns
unfolding expanded
returns c = let h : c.loop-i.i ≡ 16 = omega arith in grown_all next 80 64 _ _ refl (rw h at c.loop-i.invariant)
