-- How many bytes a request lends. Assumes nothing.
use Rattle.std.proofs.Common.{List, ◌≡◌, ℕ, ◌+◌, arith, length, length-append}
use Rattle.wire.proofs.Laws.{length_le}
use Rattle.sheet_run.specs.Request.{sizes_of, request_of}

-- the fields before the event take 18 bytes
pub length_request : (size register kind : ℕ) (event : List ℕ) → length (request_of size register kind event) ≡ 18 + length event
unfolding sizes_of request_of
length_request size register kind event = simp (length-append, length_le) (omega arith)
