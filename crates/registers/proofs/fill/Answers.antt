use Rattle.std.proofs.Common.{◌≡◌, ℕ, ◌+◌, ◌≤◌, List, ◌++◌, length, take, rules, length-take-le}
use Rattle.std.proofs.lemmas.List.{take-append-le}
use Rattle.std.proofs.Math.Seq.{take-append-add}
use Rattle.std.proofs.KnownBytes.{Consumes-trans}
use Rattle.registers.proofs.fill.Goals as goal

-- what was read into the rest of a buffer stands behind what was read before it
grown : (a n : ℕ) (xs ys rest : List ℕ) → a ≤ length xs → n ≤ length ys → take (a + n) (take a xs ++ (ys ++ rest)) ≡ take a xs ++ take n ys
grown a n xs ys rest p q = rw (length-take-le a xs p, take-append-le n ys rest q) at (take-append-add (take a xs) (ys ++ rest) n)

pub loop-done-preserved : goal.loop-done-preserved
loop-done-preserved g c =
    let read = c.in_ok-n.ensures in
    (search rules, rw (grown _ _ _ _ _ c.loop-done.invariant.0 read.bound.0) (Consumes-trans _ _ _ _ _ c.loop-done.invariant.1 read.bytes.0))
