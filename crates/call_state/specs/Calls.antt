-- The calls over a state in lent bytes: what an opening and a request answer and leave, and which bytes of a state stay.
use Rattle.std.specs.Prelude.{Bool, cond, List, ℕ}
use Rattle.service.specs.declared.State.{State}
use Rattle.service.specs.Answer.{Outcome}
use Rattle.layout.specs.Layout.{state_bytes}
use Rattle.digests.specs.Digests.{on_wire}

-- the status on the wire, and the final content of the state's bytes and of the three buffers
pub record CallOutcome : Type 0 where
  pub status : ℕ
  pub state : List ℕ
  pub old : List ℕ
  pub agile : List ℕ
  pub table : List ℕ

abbrev pub call_outcome : ℕ → List ℕ → List ℕ → List ℕ → List ℕ → CallOutcome
call_outcome n state old agile table = record { status = n; state = state; old = old; agile = agile; table = table }

-- nothing is changed
abbrev pub as_lent : ℕ → List ℕ → List ℕ → List ℕ → List ℕ → CallOutcome
as_lent n state old agile table = call_outcome (on_wire n) state old agile table

-- an outcome of the service, with the state's bytes
abbrev pub with_state : List ℕ → Outcome → CallOutcome
with_state state o = call_outcome (on_wire o.status) state o.old o.agile o.table

-- the state's bytes where a call has changed the state; else they stay
unfoldable pub kept_if : Bool → State → List ℕ → List ℕ
kept_if changed s state = cond changed (state_bytes s) state
