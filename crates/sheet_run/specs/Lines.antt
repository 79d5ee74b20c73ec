-- What stands in a line behind its name: numbers, and bytes as their digits, with a space between each and the next.
use Rattle.std.specs.Prelude.{List, ◌++◌, ℕ, Bool, Option, Some, None, codes, decimal}
use Rattle.std.specs.Int.{from_bool}
use Rattle.hex_digits.specs.Hex.{hex_of}
use Rattle.sha256.specs.Sha256.{sha256}
use Rattle.service.specs.declared.Answer.{Answer}
use Rattle.service.specs.declared.Reading.{Reading}
use Rattle.service.specs.Status.{number}

-- a number behind a space, and a truth as 0 or 1
abbrev pub then_number : ℕ → List ℕ
then_number n = codes " " ++ decimal n

abbrev pub then_truth : Bool → List ℕ
then_truth b = then_number (from_bool b)

-- bytes behind a space
abbrev pub then_bytes : List ℕ → List ℕ
then_bytes bs = codes " " ++ hex_of bs

-- where a last entry starts, or that there is none
abbrev pub then_last : Option ℕ → List ℕ
then_last None = codes " none"
then_last (Some place) = then_number place

-- the status, the used lengths, whether the logs are closed, whether the table is armed and an 11 was given
abbrev pub marks_text : Answer → List ℕ
marks_text a =
    decimal (number a.status)
    ++ (then_number a.state.old.used
    ++ (then_number a.state.agile.used
    ++ (then_number a.state.table.used
    ++ (then_truth a.state.old.closed ++ (then_truth a.state.agile.closed ++ (then_truth a.state.armed ++ then_truth a.state.full))))))

-- what an opening or a request leaves: the marks, the bytes of the three buffers, and the digest of all registers
abbrev pub answer_text : Answer → List ℕ → List ℕ → List ℕ → List ℕ
answer_text a old agile table =
    marks_text a ++ (then_bytes old ++ (then_bytes agile ++ (then_bytes table ++ then_bytes (sha256 a.state.registers.bytes))))

-- what a reading tells
abbrev pub reading_text : Reading → List ℕ
reading_text r = decimal (number r.status) ++ (then_number r.length ++ (then_last r.last ++ (then_truth r.closed ++ then_truth r.state.armed)))
