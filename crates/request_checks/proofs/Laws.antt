-- What the checks of a request tell. Assumes nothing.
use Rattle.std.proofs.Common.{List, ◌≡◌, true, false, ℕ, ◌+◌, ◌-◌, ◌/◌, ◌%◌, ◌≤◌, ◌<◌, length, leb, eqb, arith}
use Rattle.std.proofs.lemmas.Bool.{leb-true, le-leb, lt-leb}
use Rattle.std.proofs.Math.Seq.{length-take-le}
use Rattle.std.proofs.lemmas.List.{length-drop}
use Rattle.wire.proofs.Tests.{both}
use Rattle.entry.specs.Entry.{event_limit}
use Rattle.request_checks.specs.Checks.{data_limit, size_in, header_size_in, register_in, event_in, fields_good, well_formed}
use Rattle.request_checks.specs.Inner.{Good}

module _ (flags n : ℕ) (request : List ℕ) where
  pub ill_short : length request < 18 → well_formed flags n request ≡ false
  unfolding well_formed
  ill_short h = rw (lt-leb 18 (length request) h)

  pub ill_fields : fields_good flags n request ≡ false → 18 ≤ length request → well_formed flags n request ≡ false
  unfolding well_formed
  ill_fields e h = rw (le-leb 18 (length request) h, e)

  pub well : fields_good flags n request ≡ true → 18 ≤ length request → well_formed flags n request ≡ true
  unfolding well_formed
  well e h = rw (le-leb 18 (length request) h, e)

-- what a well-formed request tells of its fields
pub good_of : (flags n : ℕ) (request : List ℕ) → well_formed flags n request ≡ true → Good request
unfolding well_formed fields_good
good_of flags n request h =
    let a0 = both (leb 18 (length request)) _ h in
    let a1 = both (leb 1 n) _ a0.1 in
    let a2 = both (leb n data_limit) _ a1.1 in
    let a3 = both (eqb (flags / 2 % 8) 0) _ a2.1 in
    let a4 = both (eqb (flags / 32) 0) _ a3.1 in
    let a5 = both (eqb (header_size_in request) 14) _ a4.1 in
    let a6 = both (leb 18 (size_in request)) _ a5.1 in
    let a7 = both (leb (size_in request) (length request)) _ a6.1 in
    let a8 = both (leb (size_in request) (18 + event_limit)) (leb (register_in request) 23) a7.1 in
    record { sized = leb-true _ _ a6.0; lent = leb-true _ _ a7.0; event = leb-true _ _ a8.0; register = leb-true _ _ a8.1 }

-- the event of such a request, where it lies, has as many bytes as its size says, which may be logged
pub length_event : (request : List ℕ) → Good request → length (event_in request) ≡ size_in request - 18
length_event request g = length-take-le (size_in request - 18) _ (simp length-drop (omega (arith, g.sized, g.lent)))

pub short_event : (request : List ℕ) → Good request → length (event_in request) ≤ event_limit
short_event request g = omega (arith, length_event request g, g.event, g.sized)

pub good_fields : (flags n : ℕ) (request : List ℕ) → fields_good flags n request ≡ true → 18 ≤ length request → Good request
good_fields flags n request e h = good_of flags n request (well flags n request e h)
