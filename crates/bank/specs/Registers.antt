-- Document 01, Banks: the registers of every bank, and what extending does to them. Registers stand as bytes: the 24 of a bank one after
-- another, bank after bank in the table's order; so do digests, one of each bank.
use Rattle.std.specs.Prelude.{List, [], ◌∷◌, ◌++◌, map, ℕ, zero, suc, ◌+◌, ◌*◌, replicate}
use Rattle.std.proofs.lemmas.List.Edits.{sets}
use Rattle.wire.specs.Bytes.{part}
use Rattle.bank.specs.Bank.{Bank, table}

-- the bytes of one digest of each bank
abbrev pub digests_length : ℕ
digests_length = 52

-- 01: "A bank has registers 0 to 23": the bytes of the registers of each bank
abbrev pub registers_length : ℕ
registers_length = 24 * digests_length

-- where register r of a bank starts
abbrev pub place : Bank → ℕ → ℕ
place b r = 24 * b.from + r * b.size

-- the value of register r of a bank
abbrev pub value : Bank → ℕ → List ℕ → List ℕ
value b r registers = part registers (place b r) b.size

-- 01: "Extending a register sets it to the bank's hash of (old value, then digest)"
unfoldable pub extend : Bank → ℕ → List ℕ → List ℕ → List ℕ
extend b r digest registers = sets registers (place b r) (b.hash (value b r registers ++ digest))

-- the same in each of some banks, with a digest for each
unfoldable pub extend_all : List Bank → ℕ → List (List ℕ) → List ℕ → List ℕ
extend_all [] r ds registers = registers
extend_all (b ∷ bs) r [] registers = registers
extend_all (b ∷ bs) r (d ∷ ds) registers = extend_all bs r ds (extend b r d registers)

-- the reset values of the first n registers of a bank
unfoldable pub reset_first : Bank → ℕ → List ℕ
reset_first b zero = []
reset_first b (suc r) = reset_first b r ++ replicate b.size (b.reset r)

-- the reset values of some banks, bank after bank
unfoldable pub reset_of : List Bank → List ℕ
reset_of [] = []
reset_of (b ∷ bs) = reset_first b 24 ++ reset_of bs

-- the registers of every bank, reset
unfoldable pub reset_all : List ℕ
reset_all = reset_of table

-- a bank's digest, where one of each bank stands
abbrev pub digest_in : List ℕ → Bank → List ℕ
digest_in digests b = part digests b.from b.size

-- the digests of some banks in their order
abbrev pub digests_in : List Bank → List ℕ → List (List ℕ)
digests_in bs digests = map (digest_in digests) bs

-- the digests of a message in some banks, each written in its place
unfoldable pub hash_all : List Bank → List ℕ → List ℕ → List ℕ
hash_all [] message digests = digests
hash_all (b ∷ bs) message digests = hash_all bs message (sets digests b.from (b.hash message))

-- the digests of a message, one for each of some banks
abbrev pub hashes : List Bank → List ℕ → List (List ℕ)
hashes bs message = map (λ b. b.hash message) bs
