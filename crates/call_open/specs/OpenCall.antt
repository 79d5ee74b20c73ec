-- An opening over a state in lent bytes: what it answers and leaves in what it was lent.
use Rattle.std.specs.Prelude.{cond, List, ℕ, eqb, length}
use Rattle.service.specs.Opening.{opening_of}
use Rattle.layout.specs.Layout.{state_bytes, state_length}
use Rattle.call_state.specs.Calls.{CallOutcome, as_lent, with_state}

-- a state's buffer of another length is invalid parameter; the state handed out, after a refused opening too, is written
unfoldable pub open_call : List ℕ → ℕ → List ℕ → List ℕ → List ℕ → CallOutcome
open_call state bitmap old agile table =
    cond (eqb (length state) state_length) (with_state (state_bytes (opening_of bitmap old agile table).state) (opening_of bitmap old agile table))
    (as_lent 2 state old agile table)
