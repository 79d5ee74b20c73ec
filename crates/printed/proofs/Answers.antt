-- What the program prints, case by case, and that the first 65,537 bytes of an input are enough. Assumes nothing.
use Rattle.std.proofs.Common.{tests, true, false, List, ◌⊎◌, inl, inr, ◌≡◌, refl, ℕ, ◌+◌, ◌≤◌, ◌<◌, arith, le-leb, ne_eqb, eqb, length, take, take_all, length-take-le}
use Rattle.std.proofs.lemmas.Bool.{lt-leb}
use Rattle.entry.specs.Entry.{log_limit}
use Rattle.entry.specs.Header.{find}
use Rattle.replay.specs.Replay.{SliceOutcome, begin_of, slice_of}
use Rattle.replay.specs.declared.Replay.{Replay}
use Rattle.replay_walk.specs.Walk.{Stop, fine, refused}
use Rattle.replay.proofs.Replays.{walks, walk_number, exactly_0, exactly_walk}
use Rattle.replay.proofs.Slices.{refused_offset, begun_passes}
use Rattle.printed_lines.specs.Lines.{refused_line}
use Rattle.printed.specs.Printed.{replayed, sliced, began, output}
use Rattle.printed.proofs.Whole.{whole_log}

-- 01: "36: log over 65,536 bytes", even where the header isn't ours
pub prints_36 : (log : List ℕ) → log_limit < length log → output log ≡ refused_line 36 0
unfolding output began begin_of
prints_36 log h = rw (lt-leb _ _ h)

-- 01: "37: header not ours"
pub prints_37 : (log : List ℕ) → length log ≤ log_limit → find 3 log ≡ 0 → output log ≡ refused_line 37 0
unfolding output began begin_of
prints_37 log l h = rw (le-leb _ _ l, h)

-- the slice over a whole log
abbrev pub slice_of_log : List ℕ → SliceOutcome
slice_of_log log = slice_of (begin_of 2 log).replay log (length log)

module _ (log : List ℕ) (b : (begin_of 2 log).number ≡ 0) where
  -- 01: "A refusal prints `refused N at OFFSET`": the first entry that doesn't hold together, where it starts
  pub prints_refused : (n : ℕ) → 31 ≤ n → n ≤ 34 → (slice_of_log log).number ≡ n → output log ≡ refused_line n (slice_of_log log).replay.place
  unfolding output began sliced
  prints_refused n h k e =
      let z : eqb n 0 ≡ false = ne_eqb n 0 (λ q. omega arith) in
      rw (b, e, z, refused_offset (begin_of 2 log).replay log (length log) n h k e)

  -- 01: "Else `entries N`, then for each bank, for registers 00 to 23, a line": the replay is then done
  pub prints_registers : (slice_of_log log).number ≡ 0
      → (output log ≡ replayed (slice_of_log log).taken (slice_of_log log).replay.banks (slice_of_log log).replay.registers.bytes) × ((slice_of_log log).done ≡ true)
  unfolding output began sliced
  prints_registers e = (rw (b, e), whole_log (begin_of 2 log).replay log e)

  -- and nothing else is printed of a log whose header is ours: 35 and 36 are no answers of that slice
  pub no_other : ((slice_of_log log).number ≡ 0) ⊎ ((31 ≤ (slice_of_log log).number) × ((slice_of_log log).number ≤ 34))
  no_other = go (walks p log (length log)).stop refl
    where
      p : Replay
      p = (begin_of 2 log).replay

      go : (t : Stop) → (walks p log (length log)).stop ≡ t → ((slice_of_log log).number ≡ 0) ⊎ ((31 ≤ (slice_of_log log).number) × ((slice_of_log log).number ≤ 34))
      go fine e = inl ((exactly_0 p log (length log)).1 (begun_passes 2 log b, e))
      go (refused n) e =
          let k = walk_number p log (length log) n e in
          let q = (exactly_walk p log (length log) n k.0 k.1).1 (begun_passes 2 log b, e) in
          inr (omega (arith, q, k.0), omega (arith, q, k.1))

-- a program that stops reading after 65,537 bytes prints the same
pub first_bytes : (log : List ℕ) → output (take (log_limit + 1) log) ≡ output log
first_bytes log = grind (arith, tests, take_all (log_limit + 1) log, length-take-le (log_limit + 1) log, prints_36)
