-- The calls over a replay in lent bytes: no second outcome meets what one states, 35 and 36 leave the replay's bytes, a refused beginning
-- writes zeros, buffers of another length stay, and what a call leaves encodes the replay that it hands back. Assumes nothing.
use Rattle.std.proofs.Common.{◌&&◌, eqb, ne_eqb, arith, tests, Bool, true, false, List, ◌⊎◌, ◌≡◌, refl, ap, ℕ, eq-eqb, length, replicate}
use Rattle.wire.specs.Bytes.{le, Bytes}
use Rattle.replay.specs.Replay.{blank, BeginOutcome, begin_of, slice_of}
use Rattle.replay.proofs.Begins.{refused_blank}
use Rattle.placed.specs.Placed.{replay_bytes, replay_length, replay_in, answer_length}
use Rattle.placed.proofs.Codec.{decode_encode, held_in}
use Rattle.placed.proofs.Holds.{held_begin, held_slice, kept_slice}
use Rattle.call_replay.specs.Replays.{BeginCallOutcome, begin_call_outcome, begin_call, carried_if, SliceCallOutcome, slice_call_outcome, slice_call}

-- ---- no second outcome

pub record SameBeginCall (r r' : ℕ) (replay replay' : List ℕ) : Type 0 where
  pub number : r ≡ r'
  pub replays : replay ≡ replay'

-- no second number and no second content of the replay's bytes meets what `begin` states
pub unique_begin_call : (o : BeginCallOutcome) (r r' : ℕ) (replay replay' : List ℕ) → begin_call_outcome r replay ≡ o → begin_call_outcome r' replay' ≡ o
    → SameBeginCall r r' replay replay'
unique_begin_call o r r' replay replay' p q = grind arith

pub record SameSliceCall (r r' : ℕ) (replay replay' answer answer' : List ℕ) : Type 0 where
  pub number : r ≡ r'
  pub replays : replay ≡ replay'
  pub answers : answer ≡ answer'

-- nor what `slice` states
pub unique_slice_call : (o : SliceCallOutcome) (r r' : ℕ) (replay replay' answer answer' : List ℕ) → slice_call_outcome r replay answer ≡ o
    → slice_call_outcome r' replay' answer' ≡ o → SameSliceCall r r' replay replay' answer answer'
unique_slice_call o r r' replay replay' answer answer' p q = grind arith

-- ---- beginnings

-- the all-zero replay's bytes
zeros : replay_bytes blank ≡ replicate replay_length 0
unfolding replay_bytes blank le
zeros = refl

module _ (replay : List ℕ) (format : ℕ) (log : List ℕ) where
  -- a replay's buffer of another length answers 35 and stays
  pub begin_unchanged : (length replay ≡ replay_length → ⊥) → begin_call replay format log ≡ begin_call_outcome 35 replay
  unfolding begin_call
  begin_unchanged h = rw (ne_eqb _ _ h)

  -- in one of its length the numbers are the beginning's
  pub begin_number : length replay ≡ replay_length → (begin_call replay format log).number ≡ (begin_of format log).number
  unfolding begin_call
  begin_number h = rw (eq-eqb _ _ h)

  -- the bytes that a beginning leaves encode the replay that it gives
  pub begin_carries : length replay ≡ replay_length → replay_in (begin_call replay format log).replay ≡ (begin_of format log).replay
  unfolding begin_call
  begin_carries h = rw (eq-eqb _ _ h) (decode_encode (begin_of format log).replay (held_begin format log)).1

  -- 01: "a failed beginning gives .. a replay whose format, banks, place and registers are 0"
  pub begin_zeros : length replay ≡ replay_length → ((begin_of format log).number ≡ 0 → ⊥)
      → begin_call replay format log ≡ begin_call_outcome (begin_of format log).number (replicate replay_length 0)
  unfolding begin_call
  begin_zeros h n =
      let e : (begin_of format log).replay ≡ blank = ap (λ (o : BeginOutcome). o.replay) (refused_blank format log n) in
      rw (eq-eqb _ _ h, e, zeros)

-- ---- slices

-- both buffers have their lengths
abbrev pub sized : List ℕ → List ℕ → Bool
sized replay answer = eqb (length replay) replay_length && eqb (length answer) answer_length

pub replay_sized : (replay answer : List ℕ) → sized replay answer ≡ true → length replay ≡ replay_length
replay_sized replay answer h = grind (arith, tests)

pub answer_sized : (replay answer : List ℕ) → sized replay answer ≡ true → length answer ≡ answer_length
answer_sized replay answer h = grind (arith, tests)

module _ (replay log : List ℕ) (asked : ℕ) (answer : List ℕ) where
  abbrev call : SliceCallOutcome
  call = slice_call replay log asked answer

  -- a replay's buffer or an answer record of another length answers 35, and both stay
  pub slice_unchanged : sized replay answer ≡ false → call ≡ slice_call_outcome 35 replay answer
  unfolding slice_call
  slice_unchanged h = rw h

  -- in buffers of their lengths the numbers are the slice's
  pub slice_number : sized replay answer ≡ true → call.number ≡ (slice_of (replay_in replay) log asked).number
  unfolding slice_call
  slice_number h = rw h

  -- 01: "In a slice 35 and 36 .. hand it back as given"
  pub held_bytes : (call.number ≡ 35) ⊎ (call.number ≡ 36) → call.replay ≡ replay
  unfolding slice_call carried_if
  held_bytes h = grind (arith, tests)

  -- the bytes that a slice leaves encode the replay that it hands back, whatever the number: slice after slice over the bytes is slice after slice
  pub slice_carries : Bytes replay → sized replay answer ≡ true → replay_in call.replay ≡ (slice_of (replay_in replay) log asked).replay
  unfolding slice_call carried_if
  slice_carries b h =
      let o = slice_of (replay_in replay) log asked in
      grind (arith, (decode_encode o.replay (held_slice (replay_in replay) log asked (held_in replay b (replay_sized replay answer h)))).1, kept_slice (replay_in replay) log asked)
