-- Document 01, Program: bytes as hexadecimal digits, "lower case".
use Rattle.std.specs.Prelude.{cond, List, [], ◌∷◌, ℕ, ◌+◌, ◌/◌, ◌%◌, ltb}

-- the character of a digit: `0` to `9`, then `a` to `f`
abbrev pub digit_of : ℕ → ℕ
digit_of n = cond (ltb n 10) (48 + n) (87 + n)

-- two digits for each byte, the higher first
unfoldable pub hex_of : List ℕ → List ℕ
hex_of [] = []
hex_of (b ∷ bs) = digit_of (b / 16) ∷ (digit_of (b % 16) ∷ hex_of bs)
