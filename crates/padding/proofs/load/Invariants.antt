-- `padding::load` meets its contract. The loop's invariant: the first i words stand. Assumes nothing.
use Rattle.std.proofs.Common.{◌≡◌, take}
use Rattle.padding.specs.Words.{words}
use Rattle.padding.proofs.load.Given as goal

abbrev pub invariant-loop-i : goal.invariant-loop-i
invariant-loop-i l = take l.i l.word-items ≡ words 4 l.i l.m
