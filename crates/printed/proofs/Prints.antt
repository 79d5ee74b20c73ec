-- The whole output: that it finds room, what a buffer comes to, and that no second outcome meets the statement. Assumes nothing.
use Rattle.std.proofs.Common.{tests, Bool, true, false, cond, List, [], ◌∷◌, ◌≡◌, ℕ, zero, suc, ◌≤◌, ◌<◌, zero-add, arith, le-leb, eqb, length, length-append}
use Rattle.std.proofs.Math.Seq.{length-sets}
use Rattle.std.proofs.lemmas.Bool.{lt-leb}
use Rattle.std.proofs.lemmas.List.Edits.{sets}
use Rattle.wire.specs.Bytes.{Put, Room}
use Rattle.bank.specs.Bank.{banks}
use Rattle.entry.specs.Read.{Read, got, bad}
use Rattle.replay_walk.specs.Walk.{more, on_read, walk}
use Rattle.replay.specs.declared.Replay.{Replay}
use Rattle.replay.specs.declared.Begun.{Begun}
use Rattle.replay.specs.Replay.{begin_outcome, begin_of, slice_of}
use Rattle.replay.proofs.Replays.{pass}
use Rattle.replay.proofs.Slices.{slice_most}
use Rattle.printed_lines.specs.Lines.{refused_line, entries_line, banks_lines}
use Rattle.printed.specs.Printed.{replayed, sliced, began, output, output_limit, outcome, printed_of}
use Rattle.printed_lines.proofs.Lengths.{length_refused, length_entries, length_banks}

-- ---- how long an output is

module _ {A S : Type 0} (read : List ℕ → Read A) (act : A → S → S) where
  -- a walk takes no more entries than were asked for
  on_read_lem : (n : ℕ) (r : Read A) (s : List ℕ) (x : S) → ((s' : List ℕ) (y : S) → (walk read act n s' y).taken ≤ n)
      → (on_read r s x (λ e s'. more (walk read act n s' (act e x)))).taken ≤ suc n
  on_read_lem n (got e s') s x f = omega (arith, f s' (act e x))
  on_read_lem n (bad r) s x f = omega arith

  pub taken_asked : (n : ℕ) (s : List ℕ) (x : S) → (walk read act n s x).taken ≤ n
  unfolding walk
  taken_asked zero s x = omega arith
  taken_asked (suc n) [] x = omega arith
  taken_asked (suc n) (c ∷ s) x = on_read_lem n (read (c ∷ s)) (c ∷ s) x (taken_asked n)

-- a slice takes no more entries than an output has room to count
pub few_taken : (p : Replay) (log : List ℕ) → (slice_of p log (length log)).taken ≤ 65536
unfolding slice_of
few_taken p log = grind (arith, tests, pass p log, slice_most p log)

-- what holds of the length of every output
pub record Short (bs : List ℕ) : Type 0 where
  pub some : 0 < length bs
  pub fits : length bs ≤ output_limit

short_refused : (n offset : ℕ) → Short (refused_line n offset)
unfolding output_limit
short_refused n offset = record { some = (length_refused n offset).0; fits = omega (arith, (length_refused n offset).1) }

short_replayed : (taken bitmap : ℕ) (registers : List ℕ) → taken ≤ 65536 → Short (replayed taken bitmap registers)
unfolding replayed output_limit
short_replayed taken bitmap registers h =
    let e = length-append (entries_line taken) (banks_lines (banks bitmap) registers) in
    let l = length_entries taken in
    record { some = omega (arith, l.0); fits = omega (arith, l.1 (omega arith), length_banks bitmap registers) }

short_cond : (b : Bool) (x y : List ℕ) → Short x → Short y → Short (cond b x y)
short_cond true x y h k = h
short_cond false x y h k = k

-- no output is empty, and none is longer than the limit
pub length_output : (log : List ℕ) → Short (output log)
unfolding output began sliced
length_output log =
    let o = begin_of 2 log in
    let s = slice_of o.replay log (length log) in
    short_cond (eqb o.number 0) _ _
    (short_cond (eqb s.number 0) _ _ (short_replayed s.taken s.replay.banks s.replay.registers.bytes (few_taken o.replay log)) (short_refused s.number s.offset))
    (short_refused o.number o.offset)

-- ---- the outcome

module _ (log out : List ℕ) where
  -- a buffer that is too short stays, and one that isn't has room for what a beginning comes to
  pub prints_none : length out < 3000 → outcome 0 out ≡ printed_of log out
  unfolding printed_of output_limit
  prints_none h = rw (lt-leb _ _ h)

  module _ (b : Begun) (h : 3000 ≤ length out) (e : begin_outcome b ≡ begin_of 2 log) where
    pub room_output : Room out 0 (began (begin_outcome b) log)
    unfolding output output_limit
    room_output = rw e (record { fits = omega (arith, (length_output log).fits) })

    pub prints : {r : ℕ} {out' : List ℕ} → Put out 0 (began (begin_outcome b) log) r out' → outcome r out' ≡ printed_of log out
    unfolding printed_of output_limit output
    prints w = rw (le-leb _ _ h) (rw e at (ends w))
      where
        ends : {bs : List ℕ} {r : ℕ} {out' : List ℕ} → Put out 0 bs r out' → outcome r out' ≡ outcome (length bs) (sets out 0 bs)
        ends {bs} w = rw (w.next, w.bytes, zero-add (length bs))

  -- no second number and no second content of the buffer meets what `print` states
  pub unique : {r r' : ℕ} {x x' : List ℕ} → outcome r x ≡ printed_of log out → outcome r' x' ≡ printed_of log out → (r ≡ r') × (x ≡ x')
  unique p q = grind arith

  -- what was written ends in the buffer
  pub written_fits : {r : ℕ} {x : List ℕ} → outcome r x ≡ printed_of log out → r ≤ length x
  unfolding printed_of
  written_fits {r} {x} e = grind (arith, length-sets out 0 (output log), (length_output log).fits)
