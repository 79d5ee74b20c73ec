-- What a request's answers come to. Assumes nothing.
use Rattle.std.proofs.Common.{Bool, true, false, ◌||◌, List, ◌≡◌, ℕ, eqb}
use Rattle.service.specs.declared.State.{State}
use Rattle.service.specs.declared.Answer.{Answer}
use Rattle.service.specs.Status.{number}
use Rattle.service.specs.Answer.{outcome_of}
use Rattle.request.specs.Request.{request_of}
use Rattle.layout.specs.Layout.{state_in, encodes}
use Rattle.digests.specs.Digests.{on_wire}
use Rattle.call_state.specs.Calls.{call_outcome, as_lent, kept_if}
use Rattle.call_request.specs.RequestCall.{request_call}

module _ (state : List ℕ) (flags : ℕ) (message request old agile table : List ℕ) where
  pub request_refused : encodes state ≡ false → as_lent 7 state old agile table ≡ request_call state flags message request old agile table
  unfolding request_call
  request_refused h = rw h

  pub requests : (r : Answer) (s : State) (state' old' agile' table' : List ℕ) (w : ℕ) {k : Bool} → encodes state ≡ true → s ≡ state_in state
      → outcome_of r old' agile' table' ≡ request_of s flags message request old agile table → k ≡ (eqb (number r.status) 0 || eqb (number r.status) 11)
      → state' ≡ kept_if k r.state state → w ≡ on_wire (number r.status) → call_outcome w state' old' agile' table' ≡ request_call state flags message request old agile table
  unfolding request_call
  requests r s state' old' agile' table' w h d e g k f = rw (h, ← d, ← e, k, g, f)
