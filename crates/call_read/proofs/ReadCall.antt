-- No second outcome meets what a reading over a state in lent bytes states, and a refused one leaves the state's bytes and shows nothing. Assumes nothing.
use Rattle.std.proofs.Common.{List, ◌≡◌, ℕ, arith}
use Rattle.service.specs.Reading.{reading_of}
use Rattle.call_state.specs.Calls.{kept_if}
use Rattle.call_read.specs.ReadCall.{ReadCallOutcome, read_call_outcome, filled, nothing, read_call}

pub record SameReadCall (r r' : ℕ) (state state' answer answer' : List ℕ) : Type 0 where
  pub status : r ≡ r'
  pub states : state ≡ state'
  pub answers : answer ≡ answer'

-- no second status and no second content of any lent buffer meets what a reading states
pub unique_read_call : (o : ReadCallOutcome) (r r' : ℕ) (state state' answer answer' : List ℕ) → read_call_outcome r state answer ≡ o → read_call_outcome r' state' answer' ≡ o
    → SameReadCall r r' state state' answer answer'
unique_read_call o r r' state state' answer answer' p q = record { status = grind arith; states = grind arith; answers = grind arith }

-- ---- a refused reading leaves the state's bytes and shows nothing

module _ (state : List ℕ) (format old agile table : ℕ) (answer : List ℕ) where
  abbrev reading : ReadCallOutcome
  reading = read_call state format old agile table answer

  -- 01: "requests and readings hand the state back unchanged"; "Refused readings show length 0, no last entry, not closed"
  pub refused_reading : (reading.status ≡ 0 → ⊥) → reading ≡ read_call_outcome reading.status state (filled nothing answer)
  unfolding read_call reading_of kept_if
  refused_reading no-0 = grind arith
