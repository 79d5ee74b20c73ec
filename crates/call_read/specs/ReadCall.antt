-- A reading over a state in lent bytes: what it answers and leaves in what it was lent.
use Rattle.std.specs.Prelude.{false, None, cond, ◌||◌, List, ℕ, eqb, length}
use Rattle.store.specs.declared.Store.{Store}
use Rattle.service.specs.Reading.{ReadOutcome, reading_of}
use Rattle.layout.specs.Layout.{store_bytes, store_length, state_in, encodes}
use Rattle.digests.specs.Digests.{on_wire}
use Rattle.call_state.specs.Calls.{kept_if}

-- the status on the wire, and the final content of the state's bytes and of the answer record
pub record ReadCallOutcome : Type 0 where
  pub status : ℕ
  pub state : List ℕ
  pub answer : List ℕ

abbrev pub read_call_outcome : ℕ → List ℕ → List ℕ → ReadCallOutcome
read_call_outcome n state answer = record { status = n; state = state; answer = answer }

-- an answer record of its length is filled with a log's marks; another stays
unfoldable pub filled : Store → List ℕ → List ℕ
filled s answer = cond (eqb (length answer) store_length) (store_bytes s) answer

-- 01: "Refused readings show length 0, no last entry, not closed"
abbrev pub nothing : Store
nothing = record { used = 0; closed = false; last = None }

abbrev pub read_refused : ℕ → List ℕ → List ℕ → ReadCallOutcome
read_refused n state answer = read_call_outcome (on_wire n) state (filled nothing answer)

-- what a reading tells, in bytes; a success arms the table
abbrev pub read_told : ReadOutcome → List ℕ → List ℕ → ReadCallOutcome
read_told o state answer =
    read_call_outcome (on_wire o.status) (kept_if (eqb o.status 0) o.state state)
    (filled (record { used = o.length; closed = o.closed; last = o.last }) answer)

-- 01, order 7, 2: an answer record of another length is invalid parameter behind every device error
abbrev pub read_on : ReadOutcome → List ℕ → List ℕ → ReadCallOutcome
read_on o state answer = cond (eqb o.status 7 || eqb (length answer) store_length) (read_told o state answer) (read_refused 2 state answer)

-- the numbers are the buffers' lengths
unfoldable pub read_call : List ℕ → ℕ → ℕ → ℕ → ℕ → List ℕ → ReadCallOutcome
read_call state format old agile table answer =
    cond (encodes state) (read_on (reading_of (state_in state) format old agile table) state answer) (read_refused 7 state answer)
