-- Document 01, Banks: "Numbers are little-endian throughout." The bytes of a number at any width, the number that such bytes spell, and
-- what writing a run of bytes leaves behind. A byte is a number below 256, and a buffer the list of its bytes.
use Rattle.std.specs.Prelude.{ℕ, suc, zero, ◌+◌, ◌≤◌, ◌<◌, ◌*◌, ◌/◌, ◌%◌, List, [], ◌∷◌, ◌≡◌, length, take, drop, get_or}
use Rattle.std.proofs.lemmas.List.Edits.{sets}

-- 01, "Numbers are little-endian throughout": the w low bytes of n, the lowest first
unfoldable pub le : ℕ → ℕ → List ℕ
le zero n = []
le (suc w) n = (n % 256) ∷ le w (n / 256)

-- 01, "Numbers are little-endian throughout": the number that bytes spell, the lowest first
unfoldable pub unle : List ℕ → ℕ
unle [] = 0
unle (b ∷ bs) = b + 256 * unle bs

-- 01, Stores, "register u32, type u32, SHA-1 digest, ..": where a field lies, the n bytes of s from place at on
abbrev pub part : List ℕ → ℕ → ℕ → List ℕ
part s at n = take n (drop at s)

-- 01, "Numbers are little-endian throughout": the number in the w bytes of s from place at on
unfoldable pub num : List ℕ → ℕ → ℕ → ℕ
num s at w = unle (part s at w)

-- 01, "Numbers are little-endian throughout": what numbers are spelled with, every element a byte (past the end `get_or` says 0)
pub record Bytes (bs : List ℕ) : Type 0 where
  pub each : (i : ℕ) → get_or bs i 0 < 256

-- 01, Stores, "written into the free tail of its store, and nowhere else": d with bs at place at, every other byte as it was, is d'; r is the
-- place after bs
pub record Put (d : List ℕ) (at : ℕ) (bs : List ℕ) (r : ℕ) (d' : List ℕ) : Type 0 where
  pub next : r ≡ at + length bs
  pub bytes : d' ≡ sets d at bs

-- 01, Stores, "used length + entry length is at most the buffer's length": bs find room in d from place at on
pub record Room (d : List ℕ) (at : ℕ) (bs : List ℕ) : Type 0 where
  pub fits : at + length bs ≤ length d
