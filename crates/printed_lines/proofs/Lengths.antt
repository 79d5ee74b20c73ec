-- How long the lines are: every output finds room in the buffer. Assumes nothing.
use Rattle.std.proofs.Common.{List, [], ◌∷◌, ◌≡◌, ℕ, zero, suc, ◌+◌, ◌*◌, ◌/◌, ◌^◌, ◌≤◌, ◌<◌, suc-mul, arith, length, length-append, length-take}
use Rattle.std.proofs.Math.Nat.{pow-suc}
use Rattle.hex_digits.proofs.Laws.{length_hex}
use Rattle.bank.specs.Bank.{Bank, sha1_bank, sha256_bank, table, active_of, banks}
use Rattle.bank.specs.Registers.{value}
use Rattle.printed_lines.specs.Lines.{digits, decimal, numbered, refused_word, at_word, refused_line, entries_word, entries_line, name, two_digits, line_head, register_line, lines_first, banks_lines}

-- ---- numbers

-- at most k digits
pub length_digits : (k n : ℕ) → length (digits k n) ≤ k
unfolding digits
length_digits zero n = omega arith
length_digits (suc k) n = grind (arith, length_digits k (n / 10), length-append)

-- a number below 10 ^ (j + 1) has at most j + 1 of them
pub length_below : (k j n : ℕ) → n < 10 ^ suc j → length (digits k n) ≤ suc j
unfolding digits
length_below zero j n h = omega arith
length_below (suc k) zero n h = grind (arith, length-append)
length_below (suc k) (suc i) n h =
    let q : n < 10 ^ suc i * 10 = rw (pow-suc 10 (suc i)) at h in
    let f : n / 10 < 10 ^ suc i = omega arith in
    grind (arith, length_below k i (n / 10) f, length-append)

length_numbered : (word : List ℕ) (n : ℕ) → length (numbered word n) ≡ length word + length (decimal n)
unfolding numbered
length_numbered word n = length-append word (decimal n)

-- ---- the line of a refusal, and that of the entries

pub length_refused : (n offset : ℕ) → (0 < length (refused_line n offset)) × (length (refused_line n offset) ≤ 53)
unfolding refused_line refused_word at_word
length_refused n offset =
    let a = length_numbered refused_word n in
    let b = length_numbered at_word offset in
    (grind (arith, length-append), grind (arith, length-append, length_digits 20 n, length_digits 20 offset))

pub length_entries : (n : ℕ) → (8 < length (entries_line n)) × (n < 10 ^ 5 → length (entries_line n) ≤ 14)
unfolding entries_line entries_word
length_entries n =
    let a = length_numbered entries_word n in
    (grind (arith, length-append), λ h. grind (arith, length-append, length_below 20 4 n h))

-- ---- the lines of registers

-- the name, two spaces, the register's number, two digits a byte, and the line feed
pub length_line : (b : Bank) (r : ℕ) (registers : List ℕ) → length (register_line b r registers) ≤ length (name b) + 5 + b.size * 2
unfolding register_line line_head two_digits
length_line b r registers =
    let h : length (value b r registers) ≤ b.size = rw length-take (omega arith) in
    simp (length-append, length_hex) (omega arith)

pub length_lines : (b : Bank) (n : ℕ) (registers : List ℕ) → length (lines_first b n registers) ≤ n * (length (name b) + 5 + b.size * 2)
unfolding lines_first
length_lines b zero registers = omega arith
length_lines b (suc n) registers = grind (arith, suc-mul n, length-append, length_lines b n registers, length_line b n registers)

-- the active banks have no more lines than all
fewer : (bitmap : ℕ) (bs : List Bank) (registers : List ℕ) → length (banks_lines (active_of bitmap bs) registers) ≤ length (banks_lines bs registers)
unfolding banks_lines
fewer bitmap [] registers = omega arith
fewer bitmap (b ∷ bs) registers = grind (arith, fewer bitmap bs registers, length-append)

all_lines : (registers : List ℕ) → length (banks_lines table registers) ≤ 2976
unfolding banks_lines table name
all_lines registers =
    let a : length (lines_first sha1_bank 24 registers) ≤ 1176 = length_lines sha1_bank 24 registers in
    let b : length (lines_first sha256_bank 24 registers) ≤ 1800 = length_lines sha256_bank 24 registers in
    grind (arith, length-append)

pub length_banks : (bitmap : ℕ) (registers : List ℕ) → length (banks_lines (banks bitmap) registers) ≤ 2976
unfolding banks
length_banks bitmap registers = omega (arith, fewer bitmap table registers, all_lines registers)
