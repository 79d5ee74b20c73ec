-- The calls over a replay in lent bytes: what each answers and leaves in what it was lent. Replay's numbers stand as they are, without the
-- error bit.
use Rattle.std.specs.Prelude.{Bool, cond, ◌&&◌, List, ℕ, leb, eqb, length}
use Rattle.replay.specs.declared.Replay.{Replay}
use Rattle.replay.specs.Replay.{BeginOutcome, begin_of, SliceOutcome, slice_of}
use Rattle.placed.specs.Placed.{replay_bytes, replay_length, replay_in, answer_bytes, answer_length}

-- ---- beginnings

-- the number, and the final content of the replay's bytes
pub record BeginCallOutcome : Type 0 where
  pub number : ℕ
  pub replay : List ℕ

abbrev pub begin_call_outcome : ℕ → List ℕ → BeginCallOutcome
begin_call_outcome n replay = record { number = n; replay = replay }

-- the replay handed out is written, after a refused beginning too
abbrev pub begin_on : BeginOutcome → BeginCallOutcome
begin_on o = begin_call_outcome o.number (replay_bytes o.replay)

-- a replay's buffer of another length answers 35 before all else, and stays
unfoldable pub begin_call : List ℕ → ℕ → List ℕ → BeginCallOutcome
begin_call replay format log = cond (eqb (length replay) replay_length) (begin_on (begin_of format log)) (begin_call_outcome 35 replay)

-- ---- slices

-- the number, and the final content of the replay's bytes and of the answer record
pub record SliceCallOutcome : Type 0 where
  pub number : ℕ
  pub replay : List ℕ
  pub answer : List ℕ

abbrev pub slice_call_outcome : ℕ → List ℕ → List ℕ → SliceCallOutcome
slice_call_outcome n replay answer = record { number = n; replay = replay; answer = answer }

-- the replay's bytes where a slice has moved it on; else they stay
unfoldable pub carried_if : Bool → Replay → List ℕ → List ℕ
carried_if moved p replay = cond moved (replay_bytes p) replay

-- 0 and 31 to 34 have moved the replay on; its bytes stay on 35 and 36
abbrev pub slice_on : SliceOutcome → List ℕ → SliceCallOutcome
slice_on o replay =
    slice_call_outcome o.number (carried_if (leb o.number 34) o.replay replay) (answer_bytes o.taken o.number o.offset o.done)

-- a replay's buffer or an answer record of another length answers 35 before all else, and both stay
unfoldable pub slice_call : List ℕ → List ℕ → ℕ → List ℕ → SliceCallOutcome
slice_call replay log asked answer =
    cond (eqb (length replay) replay_length && eqb (length answer) answer_length) (slice_on (slice_of (replay_in replay) log asked) replay)
    (slice_call_outcome 35 replay answer)
