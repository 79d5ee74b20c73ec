-- Document 01, Program: the whole output for the header alone, and two refusals. Assumes nothing.
use Rattle.std.proofs.Common.{List, [], ◌∷◌, ◌++◌, ◌≡◌, refl, ℕ, replicate}
use Rattle.wire.specs.Bytes.{le}
use Rattle.hex_digits.specs.Hex.{hex_of}
use Rattle.bank.specs.Bank.{banks, table, valid}
use Rattle.bank.specs.Registers.{reset_all, reset_of, reset_first}
use Rattle.entry.specs.Entry.{log_limit, read_agile}
use Rattle.entry.specs.Read.{test}
use Rattle.entry.specs.Form.{agile}
use Rattle.entry.specs.Header.{find, starts, header_bytes, header_front, header_title, spec_id, size_bytes, header_length}
use Rattle.replay_walk.specs.Walk.{walk}
use Rattle.replay_walk.specs.Taken.{form_of}
use Rattle.replay.specs.Replay.{fresh, begin_of, is_given, slice_of}
use Rattle.printed_lines.specs.Lines.{digits, numbered, refused_word, at_word, refused_line, entries_word, entries_line, name, two_digits, line_head, register_line, lines_first, banks_lines}
use Rattle.printed.specs.Printed.{replayed, sliced, began, output}

-- ---- the header alone

-- a line `sha1`, the two digits a and b of a register, and forty times the digit c
abbrev pub line : ℕ → ℕ → ℕ → List ℕ
line a b c = 115 ∷ (104 ∷ (97 ∷ (49 ∷ (32 ∷ (a ∷ (b ∷ (32 ∷ (replicate 40 c ++ replicate 1 10))))))))

-- 01: "The whole output for the 65-byte SHA-1 header alone: `entries 0`, then 24 lines, forty `f` for 17 to 22, forty `0` for the others"
pub header_alone : output (header_bytes (banks 1)) ≡ (101 ∷ (110 ∷ (116 ∷ (114 ∷ (105 ∷ (101 ∷ (115 ∷ (32 ∷ (48 ∷ (10 ∷ [])))))))))) ++ (
    line 48 48 48 ++ (
    line 48 49 48 ++ (
    line 48 50 48 ++ (
    line 48 51 48 ++ (
    line 48 52 48 ++ (
    line 48 53 48 ++ (
    line 48 54 48 ++ (
    line 48 55 48 ++ (
    line 48 56 48 ++ (
    line 48 57 48 ++ (
    line 49 48 48 ++ (
    line 49 49 48 ++ (
    line 49 50 48 ++ (
    line 49 51 48 ++ (
    line 49 52 48 ++ (
    line 49 53 48 ++ (
    line 49 54 48 ++ (
    line 49 55 102 ++ (
    line 49 56 102 ++ (
    line 49 57 102 ++ (
    line 50 48 102 ++ (
    line 50 49 102 ++ (
    line 50 50 102 ++ (
    line 50 51 48))))))))))))))))))))))))
unfolding output began sliced replayed begin_of slice_of find starts header_bytes header_front header_title spec_id size_bytes banks table le log_limit header_length is_given valid fresh walk form_of reset_all reset_of reset_first entries_line numbered digits entries_word banks_lines lines_first register_line line_head name two_digits hex_of
header_alone = refl

-- an empty input, whose header isn't ours: `refused 37 at 0`
pub nothing_refused : output [] ≡ 114 ∷ (101 ∷ (102 ∷ (117 ∷ (115 ∷ (101 ∷ (100 ∷ (32 ∷ (51 ∷ (55 ∷ (32 ∷ (97 ∷ (116 ∷ (32 ∷ (48 ∷ (10 ∷ [])))))))))))))))
unfolding output began begin_of find starts header_bytes header_front header_title spec_id size_bytes banks table le log_limit refused_line numbered digits refused_word at_word
nothing_refused = refl

-- one byte behind the header, too few for an entry: `refused 31 at 65`
pub byte_refused : output (header_bytes (banks 1) ++ replicate 1 0) ≡ 114 ∷ (101 ∷ (102 ∷ (117 ∷ (115 ∷ (101 ∷ (100 ∷ (32 ∷ (51 ∷ (49 ∷ (32 ∷ (97 ∷ (116 ∷ (32 ∷ (54 ∷ (53 ∷ (10 ∷ []))))))))))))))))
unfolding output began sliced begin_of slice_of find starts header_bytes header_front header_title spec_id size_bytes banks table le log_limit header_length is_given valid fresh walk form_of agile read_agile test refused_line numbered digits refused_word at_word
byte_refused = refl
