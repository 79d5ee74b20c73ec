-- Every logged request's entry is one that replay takes, where the requests are bytes, as those of every lent slice are. Assumes nothing.
use Rattle.std.proofs.Common.{Bool, true, false, cond, not, ◌&&◌, List, [], ◌∷◌, ◌≡◌, refl, ℕ, ◌+◌, ◌≤◌, ◌<◌, ◌^◌, arith, leb, length, length-take, length-drop}
use Rattle.wire.specs.Bytes.{Bytes}
use Rattle.wire.proofs.Laws.{num_lt}
use Rattle.wire.proofs.Tests.{both}
use Rattle.bank.specs.Bank.{Bank}
use Rattle.bank.proofs.Laws.{Every}
use Rattle.entry.specs.Entry.{Well, event_limit}
use Rattle.entry.proofs.Laws.{fits_hashes}
use Rattle.request_checks.specs.Checks.{well_formed}
use Rattle.request.specs.Request.{pe_coff, extend_only}
use Rattle.request_checks.proofs.Laws.{good_of}
use Rattle.history.specs.History.{Call, ask, reading, Measure, measure_of, entry_of, is_good, keep_if, accepted, logged, fitting}

-- every request consists of bytes
abbrev pub AllBytes : List Call → Type 0
AllBytes [] = Unit {0}
AllBytes (ask flags message request ∷ cs) = Bytes request × AllBytes cs
AllBytes (reading format ∷ cs) = AllBytes cs

pub record GoodMeasure (m : Measure) : Type 0 where
  pub register : m.register ≤ 23
  pub kind : m.kind < 256 ^ 4
  pub event : length m.event ≤ event_limit

abbrev pub All : (Measure → Type 0) → List Measure → Type 0
All P [] = Unit {0}
All P (m ∷ ms) = P m × All P ms

good_request : (flags : ℕ) (message request : List ℕ) → Bytes request → is_good flags message request ≡ true → GoodMeasure (measure_of message request)
unfolding is_good
good_request flags message request b h =
    let w = (both (well_formed flags (length message) request) (not (pe_coff flags)) h).0 in
    let g = good_of flags (length message) request w in
    record { register = g.register; kind = num_lt request 14 4 b; event = simp (length-take, length-drop) (omega (arith, g.event, g.sized, g.lent)) }

pub logged_good : (cs : List Call) → AllBytes cs → All GoodMeasure (logged cs)
unfolding logged
logged_good [] b = tt
logged_good (reading format ∷ cs) b = logged_good cs b
logged_good (ask flags message request ∷ cs) b = go (is_good flags message request) (extend_only flags) refl (logged_good cs b.1)
  where
    go : (g o : Bool) → is_good flags message request ≡ g → All GoodMeasure (logged cs) → All GoodMeasure (keep_if (g && not o) (measure_of message request) (logged cs))
    go false o e i = i
    go true true e i = i
    go true false e i = (good_request flags message request b.0 e, i)

pub accepted_good : (cs : List Call) → AllBytes cs → All GoodMeasure (accepted cs)
unfolding accepted
accepted_good [] b = tt
accepted_good (reading format ∷ cs) b = accepted_good cs b
accepted_good (ask flags message request ∷ cs) b = go (is_good flags message request) refl (accepted_good cs b.1)
  where
    go : (g : Bool) → is_good flags message request ≡ g → All GoodMeasure (accepted cs) → All GoodMeasure (keep_if g (measure_of message request) (accepted cs))
    go false e i = i
    go true e i = (good_request flags message request b.0 e, i)

pub fitting_good : (bytes : Measure → List ℕ) (cap used : ℕ) (ms : List Measure) → All GoodMeasure ms → All GoodMeasure (fitting bytes cap used ms)
unfolding fitting
fitting_good bytes cap used [] g = tt
fitting_good bytes cap used (m ∷ ms) g = go (leb (used + length (bytes m)) cap) (fitting_good bytes cap (used + length (bytes m)) ms g.1)
  where
    go : (b : Bool) → All GoodMeasure (fitting bytes cap (used + length (bytes m)) ms) → All GoodMeasure (cond b (m ∷ fitting bytes cap (used + length (bytes m)) ms) [])
    go true i = (g.0, i)
    go false i = tt

-- the entry of a good measurement is one that every field can hold and replay takes
pub well : (bs : List Bank) (m : Measure) → Every bs → GoodMeasure m → Well bs (entry_of bs m)
well bs m e g = record { register = g.register; kind = g.kind; digests = fits_hashes bs m.message e; event = g.event }
