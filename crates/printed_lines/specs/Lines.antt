-- Document 01, Program: the lines that the program prints, as bytes.
use Rattle.std.specs.Prelude.{cond, List, [], ◌∷◌, ◌++◌, ℕ, zero, suc, ◌+◌, ◌/◌, ◌%◌, ltb, eqb, replicate}
use Rattle.hex_digits.specs.Hex.{hex_of}
use Rattle.bank.specs.Bank.{Bank}
use Rattle.bank.specs.Registers.{value}

-- a number of at most k decimal digits, without zeros in front
unfoldable pub digits : ℕ → ℕ → List ℕ
digits zero n = []
digits (suc k) n = cond (ltb n 10) (replicate 1 (48 + n)) (digits k (n / 10) ++ replicate 1 (48 + n % 10))

-- a number below 10^20 in decimal digits
abbrev pub decimal : ℕ → List ℕ
decimal n = digits 20 n

-- a line feed, a space
abbrev pub feed : List ℕ
feed = replicate 1 10

abbrev pub space : List ℕ
space = replicate 1 32

-- a word, and a number behind it
unfoldable pub numbered : List ℕ → ℕ → List ℕ
numbered word n = word ++ decimal n

-- 01: "A refusal prints `refused N at OFFSET`"; "Each line, a refusal too, ends in one line feed"
unfoldable pub refused_word : List ℕ
refused_word = 114 ∷ 101 ∷ 102 ∷ 117 ∷ 115 ∷ 101 ∷ 100 ∷ 32 ∷ []

unfoldable pub at_word : List ℕ
at_word = 32 ∷ 97 ∷ 116 ∷ 32 ∷ []

unfoldable pub refused_line : ℕ → ℕ → List ℕ
refused_line n offset = numbered refused_word n ++ (numbered at_word offset ++ feed)

-- 01: "`entries N`"
unfoldable pub entries_word : List ℕ
entries_word = 101 ∷ 110 ∷ 116 ∷ 114 ∷ 105 ∷ 101 ∷ 115 ∷ 32 ∷ []

unfoldable pub entries_line : ℕ → List ℕ
entries_line n = numbered entries_word n ++ feed

-- `sha1` or `sha256`, by the bank's algorithm
unfoldable pub name : Bank → List ℕ
name b = cond (eqb b.algorithm 0x4) (115 ∷ 104 ∷ 97 ∷ 49 ∷ []) (115 ∷ 104 ∷ 97 ∷ 50 ∷ 53 ∷ 54 ∷ [])

-- 01: "for registers 00 to 23": two digits
unfoldable pub two_digits : ℕ → List ℕ
two_digits r = (48 + r / 10) ∷ ((48 + r % 10) ∷ [])

-- `sha1 00 ` or `sha256 00 `
unfoldable pub line_head : Bank → ℕ → List ℕ
line_head b r = name b ++ (space ++ (two_digits r ++ space))

-- 01: "a line `sha1 00 HEX` or `sha256 00 HEX`, lower case"
unfoldable pub register_line : Bank → ℕ → List ℕ → List ℕ
register_line b r registers = line_head b r ++ (hex_of (value b r registers) ++ feed)

-- the lines of the first n registers of a bank
unfoldable pub lines_first : Bank → ℕ → List ℕ → List ℕ
lines_first b zero registers = []
lines_first b (suc r) registers = lines_first b r registers ++ register_line b r registers

-- 01: "then for each bank, for registers 00 to 23, a line"
unfoldable pub banks_lines : List Bank → List ℕ → List ℕ
banks_lines [] registers = []
banks_lines (b ∷ bs) registers = lines_first b 24 registers ++ banks_lines bs registers
