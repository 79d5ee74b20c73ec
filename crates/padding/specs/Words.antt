-- Words of FIPS 180-4: a byte is a number below 256, a word of w bits a number below 2 ^ w.
use Rattle.std.specs.Prelude.{ℕ, zero, suc, ◌+◌, ◌-◌, ◌*◌, ◌/◌, ◌%◌, ◌^◌, List, [], ◌∷◌, ◌++◌, bit_and, bit_or, bit_xor, slice_index}

-- 3.2: addition of words modulo 2 ^ w
abbrev pub plus : ℕ → ℕ → ℕ → ℕ
plus w x y = (x + y) % 2 ^ w

-- 2.2.2: the complement of each bit
abbrev pub bit_not : ℕ → ℕ → ℕ
bit_not w x = 2 ^ w - 1 - x

-- 3.2: SHR, right shift
abbrev pub shr : ℕ → ℕ → ℕ
shr n x = x / 2 ^ n

-- 3.2: ROTR, rotation to the right
abbrev pub rotr : ℕ → ℕ → ℕ → ℕ
rotr w n x = bit_or (x / 2 ^ n) (x * 2 ^ (w - n) % 2 ^ w)

-- 3.2: ROTL, rotation to the left: by n it is ROTR by w - n
abbrev pub rotl : ℕ → ℕ → ℕ → ℕ
rotl w n = rotr w (w - n)

-- 4.1.1 to 4.1.3: Ch
abbrev pub ch : ℕ → ℕ → ℕ → ℕ → ℕ
ch w x y z = bit_xor (bit_and x y) (bit_and (bit_not w x) z)

-- 4.1.1 to 4.1.3: Maj
abbrev pub maj : ℕ → ℕ → ℕ → ℕ
maj x y z = bit_xor (bit_xor (bit_and x y) (bit_and x z)) (bit_and y z)

-- 4.1.1: Parity
abbrev pub parity : ℕ → ℕ → ℕ → ℕ
parity x y z = bit_xor (bit_xor x y) z

-- 3.1: the lowest n bytes of x, most significant first
unfoldable pub bytes : ℕ → ℕ → List ℕ
bytes zero x = []
bytes (suc n) x = x / 256 ^ n % 256 ∷ bytes n x

-- 3.1: the number that the n bytes from place i on are, most significant first
unfoldable pub number : ℕ → List ℕ → ℕ → ℕ
number zero m i = 0
number (suc n) m i = number n m i * 256 + slice_index m (i + n)

-- n steps of f, counted from 0
unfoldable pub run : {S : Type 0} → (ℕ → S → S) → ℕ → S → S
run f zero s = s
run f (suc t) s = f t (run f t s)

-- n steps of f, counted from t
unfoldable pub steps : {S : Type 0} → (ℕ → S → S) → ℕ → ℕ → S → S
steps f t zero s = s
steps f t (suc n) s = f (t + n) (steps f t n s)

-- n steps, each of which appends the word that its number and the words so far give
abbrev pub grow : (ℕ → List ℕ → ℕ) → ℕ → List ℕ → List ℕ
grow f = run (λ t ws. ws ++ (f t ws ∷ []))

-- 5.2: the first n words, of b bytes each, of m
abbrev pub words : ℕ → ℕ → List ℕ → List ℕ
words b n m = grow (λ i ws. number b m (i * b)) n []
