-- A request over a state in lent bytes: what it answers and leaves in what it was lent.
use Rattle.std.specs.Prelude.{cond, ◌||◌, List, ℕ, eqb}
use Rattle.service.specs.Answer.{Outcome}
use Rattle.request.specs.Request.{request_of}
use Rattle.layout.specs.Layout.{state_in, encodes}
use Rattle.call_state.specs.Calls.{CallOutcome, as_lent, with_state, kept_if}

-- 0 and 11 have changed the state; its bytes stay on every other answer
abbrev pub requested : Outcome → List ℕ → CallOutcome
requested o state = with_state (kept_if (eqb o.status 0 || eqb o.status 11) o.state state) o

-- bytes that encode no state answer device error before all else
unfoldable pub request_call : List ℕ → ℕ → List ℕ → List ℕ → List ℕ → List ℕ → List ℕ → CallOutcome
request_call state flags message request old agile table =
    cond (encodes state) (requested (request_of (state_in state) flags message request old agile table) state) (as_lent 7 state old agile table)
