-- No second outcome meets what an opening or a request over a state in lent bytes states. Assumes nothing.
use Rattle.std.proofs.Common.{List, ◌≡◌, ℕ, arith}
use Rattle.call_state.specs.Calls.{CallOutcome, call_outcome}

-- two answers that are the same outcome are the same status and leave the same bytes in every lent buffer
pub record SameCall (r r' : ℕ) (state state' old old' agile agile' table table' : List ℕ) : Type 0 where
  pub status : r ≡ r'
  pub states : state ≡ state'
  pub olds : old ≡ old'
  pub agiles : agile ≡ agile'
  pub tables : table ≡ table'

-- no second status and no second content of any lent buffer meets what an opening or a request states
pub unique_call : (o : CallOutcome) (r r' : ℕ) (state state' old old' agile agile' table table' : List ℕ) → call_outcome r state old agile table ≡ o
    → call_outcome r' state' old' agile' table' ≡ o → SameCall r r' state state' old old' agile agile' table table'
unique_call o r r' state state' old old' agile agile' table table' p q =
    record { status = grind arith; states = grind arith; olds = grind arith; agiles = grind arith; tables = grind arith }
