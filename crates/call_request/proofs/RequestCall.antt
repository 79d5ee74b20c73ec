-- A refused request over a state in lent bytes changes nothing. Assumes nothing.
use Rattle.std.proofs.Common.{Bool, true, false, List, ◌≡◌, refl, sym, ap, ◌∙◌, ℕ, length}
use Rattle.service.specs.State.{belongs}
use Rattle.service.specs.Answer.{Outcome, untouched}
use Rattle.request_checks.specs.Checks.{well_formed}
use Rattle.request.specs.Request.{pe_coff, request_of}
use Rattle.request.proofs.Requests.{elevens, exactly_7, unchanged_7, exactly_2, unchanged_2, exactly_3, unchanged_3, exactly_11, exactly_0}
use Rattle.layout.specs.Layout.{state_in, encodes}
use Rattle.digests.specs.Digests.{on_wire}
use Rattle.call_state.specs.Calls.{CallOutcome, call_outcome, as_lent, kept_if}
use Rattle.call_request.specs.RequestCall.{request_call}

module _ (state : List ℕ) (flags : ℕ) (message request old agile table : List ℕ) where
  abbrev call : CallOutcome
  call = request_call state flags message request old agile table

  abbrev answer : Outcome
  answer = request_of (state_in state) flags message request old agile table

  -- bytes that encode no state, and a request that leaves all as lent
  not_encoded : encodes state ≡ false → call ≡ as_lent 7 state old agile table
  unfolding request_call
  not_encoded h = rw h

  left_7 : encodes state ≡ true → answer ≡ untouched 7 (state_in state) old agile table → call ≡ as_lent 7 state old agile table
  unfolding request_call kept_if
  left_7 h e = rw (h, e)

  left_2 : encodes state ≡ true → answer ≡ untouched 2 (state_in state) old agile table → call ≡ as_lent 2 state old agile table
  unfolding request_call kept_if
  left_2 h e = rw (h, e)

  left_3 : encodes state ≡ true → answer ≡ untouched 3 (state_in state) old agile table → call ≡ as_lent 3 state old agile table
  unfolding request_call kept_if
  left_3 h e = rw (h, e)

  -- an answer of the service, on the wire
  status_of_lem : (n : ℕ) → encodes state ≡ true → answer.status ≡ n → call.status ≡ on_wire n
  unfolding request_call
  status_of_lem n h e = rw (h, e)

  as_lent_lem : (n : ℕ) → call ≡ as_lent n state old agile table → call ≡ call_outcome call.status state old agile table
  as_lent_lem n e = e ∙ ap (λ (m : ℕ). call_outcome m state old agile table) (sym (ap (λ (x : CallOutcome). x.status) e))

  -- 01: "A 2, 3, 5 or 7 changes no byte": the bytes of the state, of both logs and of the table are as lent where the answer is neither 0 nor 11
  pub refused_unchanged : (call.status ≡ 0 → ⊥) → (call.status ≡ on_wire 11 → ⊥) → call ≡ call_outcome call.status state old agile table
  refused_unchanged no-0 no-11 =
      go (encodes state) (belongs (state_in state) (length old) (length agile) (length table)) (well_formed flags (length message) request) (pe_coff flags)
      (elevens (state_in state) flags message request old agile table) refl refl refl refl refl
    where
      go : (d k w p b : Bool) → encodes state ≡ d → belongs (state_in state) (length old) (length agile) (length table) ≡ k → well_formed flags (length message) request ≡ w
          → pe_coff flags ≡ p → elevens (state_in state) flags message request old agile table ≡ b → call ≡ call_outcome call.status state old agile table
      go false k w p b h hk hw hp hb = as_lent_lem 7 (not_encoded h)
      go true false w p b h hk hw hp hb =
          as_lent_lem 7 (left_7 h (unchanged_7 (state_in state) flags message request old agile table ((exactly_7 (state_in state) flags message request old agile table).1 hk)))
      go true true false p b h hk hw hp hb =
          as_lent_lem 2 (left_2 h (unchanged_2 (state_in state) flags message request old agile table ((exactly_2 (state_in state) flags message request old agile table).1 (hk, hw))))
      go true true true true b h hk hw hp hb =
          as_lent_lem 3 (left_3 h (unchanged_3 (state_in state) flags message request old agile table ((exactly_3 (state_in state) flags message request old agile table).1 (hk, hw, hp))))
      go true true true false true h hk hw hp hb =
          absurd (no-11 (status_of_lem 11 h ((exactly_11 (state_in state) flags message request old agile table).1 (record { belonging = hk; well_formed = hw; no_image = hp }, hb))))
      go true true true false false h hk hw hp hb =
          absurd (no-0 (status_of_lem 0 h ((exactly_0 (state_in state) flags message request old agile table).1 (record { belonging = hk; well_formed = hw; no_image = hp }, hb))))
