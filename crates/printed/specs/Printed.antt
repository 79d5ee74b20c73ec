-- Document 01, Program: the whole output for a log on standard input, as bytes.
use Rattle.std.specs.Prelude.{cond, List, ◌++◌, ℕ, leb, eqb, length}
use Rattle.std.proofs.lemmas.List.Edits.{sets}
use Rattle.bank.specs.Bank.{banks}
use Rattle.replay.specs.Replay.{BeginOutcome, begin_of, SliceOutcome, slice_of}
use Rattle.printed_lines.specs.Lines.{refused_line, entries_line, banks_lines}

-- 01: "`entries N`, then for each bank, for registers 00 to 23, a line"
unfoldable pub replayed : ℕ → ℕ → List ℕ → List ℕ
replayed taken bitmap registers = entries_line taken ++ banks_lines (banks bitmap) registers

-- 01: "A refusal prints `refused N at OFFSET`. Else `entries N`, then ..", after a slice
unfoldable pub sliced : SliceOutcome → List ℕ
sliced s =
    cond (eqb s.number 0) (replayed s.taken s.replay.banks s.replay.registers.bytes) (refused_line s.number s.offset)

-- after a beginning: one slice is asked for as many entries as the log has bytes, which are more than it can hold
unfoldable pub began : BeginOutcome → List ℕ → List ℕ
began o log = cond (eqb o.number 0) (sliced (slice_of o.replay log (length log))) (refused_line o.number o.offset)

-- 01: "the input is format 2"
unfoldable pub output : List ℕ → List ℕ
output log = began (begin_of 2 log) log

-- no output has more bytes
unfoldable pub output_limit : ℕ
output_limit = 3000

-- how many bytes were written, and the final content of the lent buffer
pub record Outcome : Type 0 where
  pub written : ℕ
  pub buffer : List ℕ

abbrev pub outcome : ℕ → List ℕ → Outcome
outcome n b = record { written = n; buffer = b }

-- a buffer that could be too short for some output stays as lent, and 0 is answered: no output is empty
unfoldable pub printed_of : List ℕ → List ℕ → Outcome
printed_of log buffer =
    cond (leb output_limit (length buffer)) (outcome (length (output log)) (sets buffer 0 (output log))) (outcome 0 buffer)
