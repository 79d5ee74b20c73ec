-- Document 01, Banks: what each bank knows, the table of banks, and the active ones.
use Rattle.std.specs.Prelude.{Bool, true, false, cond, ◌&&◌, List, [], ◌∷◌, ℕ, ◌/◌, ◌%◌, leb, eqb}
use Rattle.sha1_hash.specs.Sha1.{sha1}
use Rattle.sha256.specs.Sha256.{sha256}

-- 01: "Each bank knows its bitmap bit, algorithm number, digest length and reset values". `size` is the digest's length in bytes, `reset r` the
-- byte that register r is filled with, and `from` where the bank's digest starts where one of each bank stands, in the table's order
pub record Bank : Type 0 where
  pub bit : ℕ
  pub algorithm : ℕ
  pub size : ℕ
  pub hash : List ℕ → List ℕ
  pub reset : ℕ → ℕ
  pub from : ℕ

-- 01: "Reset: all bits one in 17 to 22, all zero elsewhere"
abbrev pub reset_byte : ℕ → ℕ
reset_byte r = cond (leb 17 r && leb r 22) 255 0

-- 01: the table's first row
abbrev pub sha1_bank : Bank
sha1_bank = record { bit = 1; algorithm = 0x4; size = 20; hash = sha1; reset = reset_byte; from = 0 }

-- 01: the table's second row
abbrev pub sha256_bank : Bank
sha256_bank = record { bit = 2; algorithm = 0xb; size = 32; hash = sha256; reset = reset_byte; from = 20 }

-- 01: the table of banks
unfoldable pub table : List Bank
table = sha1_bank ∷ (sha256_bank ∷ [])

-- how many rows the table has
abbrev pub rows : ℕ
rows = 2

-- 01: "Active bitmap": the bank's bit is set
abbrev pub active : ℕ → Bank → Bool
active bitmap b = eqb (bitmap / b.bit % 2) 1

abbrev pub keep : Bool → Bank → List Bank → List Bank
keep true b bs = b ∷ bs
keep false b bs = bs

-- 01: "Active bitmap: 1, 2 or 3"
unfoldable pub valid : ℕ → Bool
valid bitmap = leb 1 bitmap && leb bitmap 3

-- those of some banks that are active, in their order
abbrev pub active_of : ℕ → List Bank → List Bank
active_of bitmap [] = []
active_of bitmap (b ∷ bs) = keep (active bitmap b) b (active_of bitmap bs)

-- 01: the active banks, in the table's order
unfoldable pub banks : ℕ → List Bank
banks bitmap = active_of bitmap table
