-- What a request's inner functions lean on.
use Rattle.std.specs.Prelude.{◌≡◌, List, ℕ, ◌+◌, ◌≤◌, length}
use Rattle.entry.specs.Entry.{event_limit}
use Rattle.request_checks.specs.declared.Fields.{Fields}
use Rattle.request_checks.specs.Checks.{size_in, register_in, kind_in, event_in}

-- what a well-formed request tells of its fields
pub record Good (request : List ℕ) : Type 0 where
  pub sized : 18 ≤ size_in request
  pub lent : size_in request ≤ length request
  pub event : size_in request ≤ 18 + event_limit
  pub register : register_in request ≤ 23

-- the fields are those of the lent bytes, and the event is short enough to be logged
pub record AreFieldsOf (f : Fields) (request : List ℕ) : Type 0 where
  pub register : f.register ≡ register_in request
  pub kind : f.kind ≡ kind_in request
  pub event : f.event.now ≡ event_in request
  pub short : length f.event.now ≤ event_limit
