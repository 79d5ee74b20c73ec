-- What the hashes of FIPS 180-4 do with a message of n bytes, over the block size B and the length field L, both in bytes.
use Rattle.std.specs.Prelude.{ℕ, ◌+◌, ◌-◌, ◌*◌, ◌/◌, List, ◌∷◌, ◌++◌, length, take, drop, replicate}
use Rattle.padding.specs.Words.{bytes, run}

-- 5.1, 5.2: the number of blocks of the padded message
unfoldable pub blocks : ℕ → ℕ → ℕ → ℕ
blocks B L n = (n + L) / B + 1

-- 5.1: the number of zero bytes between the byte 128 and the length field
unfoldable pub zeros : ℕ → ℕ → ℕ → ℕ
zeros B L n = blocks B L n * B - (n + 1 + L)

-- 5.1: the byte 128 (the bit 1 and seven zero bits), z zero bytes, and the length of n bytes, counted in bits
unfoldable pub ending : ℕ → ℕ → ℕ → List ℕ
ending z L n = 128 ∷ (replicate z 0 ++ bytes L (n * 8))

-- 5.1: what is appended to n bytes
unfoldable pub padding : ℕ → ℕ → ℕ → List ℕ
padding B L n = ending (zeros B L n) L n

-- 6: the hash value after the first n blocks of m, where f s b is the hash value after s and the block b
abbrev pub chain : {S : Type 0} → (S → List ℕ → S) → ℕ → ℕ → List ℕ → S → S
chain f B n m = run (λ i s. f s (take B (drop (i * B) m))) n

-- the hash value after the whole blocks of m
unfoldable pub absorbed : {S : Type 0} → (S → List ℕ → S) → ℕ → List ℕ → S → S
absorbed f B m s = chain f B (length m / B) m s

-- the hash value after what is left of a message of n bytes, and its padding
unfoldable pub finished : {S : Type 0} → (S → List ℕ → S) → ℕ → ℕ → ℕ → List ℕ → S → S
finished f B L n rest s = absorbed f B (rest ++ padding B L n) s

-- 5, 6: the hash value after the padded message
unfoldable pub hash : {S : Type 0} → (S → List ℕ → S) → ℕ → ℕ → S → List ℕ → S
hash f B L s m = chain f B (blocks B L (length m)) (m ++ padding B L (length m)) s
