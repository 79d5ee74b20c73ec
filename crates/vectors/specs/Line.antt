-- A line of the list of figures: the hash's name, the message's name and the digest's digits, a space between them and a line feed at the end.
use Rattle.std.specs.Prelude.{List, [], ◌∷◌, ◌++◌, ℕ, zero, suc, ◌+◌, ◌*◌, ◌%◌, replicate}
use Rattle.hex_digits.specs.Hex.{hex_of}

abbrev pub head_of : List ℕ → List ℕ → List ℕ
head_of label name = label ++ (replicate 1 32 ++ (name ++ replicate 1 32))

abbrev pub line_of : List ℕ → List ℕ → List ℕ → List ℕ
line_of label name digest = head_of label name ++ (hex_of digest ++ replicate 1 10)

-- the first k bytes of the patterned message of n bytes
abbrev pub pattern_of : ℕ → ℕ → List ℕ
pattern_of n zero = []
pattern_of n (suc i) = pattern_of n i ++ ((i * 31 + n * 17 + 5) % 256 ∷ [])
