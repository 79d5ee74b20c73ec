-- Document 01, Sheet for the test bench: the rows marked P, each with what is looked at and what must be seen.
use Rattle.std.specs.Prelude.{Bool, true, false, cond, ◌&&◌, List, [], ◌∷◌, ◌++◌, ◌≡◌, Option, Some, None, ℕ, eqb, length, replicate}
use Rattle.wire.specs.Bytes.{part}
use Rattle.bank.specs.Bank.{sha1_bank, sha256_bank}
use Rattle.bank.specs.Registers.{value}
use Rattle.service.specs.Reading.{reading_of}
use Rattle.history.specs.History.{Call, ask, reading, Panel, status_of, step, opening}

-- one row: what opening is given (a bitmap and the lengths of the three buffers), a call, what is looked at, and what must be seen
pub record Row : Type 0 where
  pub bitmap : ℕ
  pub old : ℕ
  pub agile : ℕ
  pub table : ℕ
  pub call : Call
  pub look : Call → Panel → List ℕ
  pub expected : List ℕ

-- what the call meets
unfoldable pub before : Row → Panel
before r = opening r.bitmap (replicate r.old 165) (replicate r.agile 165) (replicate r.table 165)

-- what is seen of a row
unfoldable pub seen : Row → List ℕ
seen r = r.look r.call (before r)

-- ---- what is looked at

-- the status alone
unfoldable pub status : Call → Panel → List ℕ
status c p = status_of c p ∷ []

-- a last entry: 0 where there is none, else 1 and its offset
abbrev pub last_seen : Option ℕ → List ℕ
last_seen None = 0 ∷ []
last_seen (Some p) = 1 ∷ p ∷ []

abbrev pub flag : Bool → ℕ
flag b = cond b 1 0

-- what a reading answers: its status, the used length and the last entry
abbrev pub reading_seen : Call → Panel → List ℕ
reading_seen (reading format) p =
    let o = reading_of p.state format (length p.old) (length p.agile) (length p.table) in
    o.status ∷ o.length ∷ last_seen o.last
reading_seen (ask flags message request) p = []

unfoldable pub told : Call → Panel → List ℕ
told c p = reading_seen c p

-- the status, and whether the table is armed after it
unfoldable pub armed : Call → Panel → List ℕ
armed c p = status_of c p ∷ flag (step c p).state.armed ∷ []

-- the status, and the agile log's used length, last entry and bytes from 69 on
unfoldable pub logged : Call → Panel → List ℕ
logged c p =
    let q = step c p in
    status_of c p ∷ q.state.agile.used ∷ (last_seen q.state.agile.last ++ part q.agile 69 76)

-- the status and the agile log's used length
unfoldable pub used : Call → Panel → List ℕ
used c p = status_of c p ∷ (step c p).state.agile.used ∷ []

-- the status, the agile log's used length and whether it is closed, and register 2 of both banks
unfoldable pub extended : Call → Panel → List ℕ
extended c p =
    let q = step c p in
    status_of c p
    ∷ q.state.agile.used
    ∷ flag q.state.agile.closed
    ∷ (value sha1_bank 2 q.state.registers.bytes ++ value sha256_bank 2 q.state.registers.bytes)

-- ---- the requests

-- P1's data and request
unfoldable pub four_zeros : List ℕ
four_zeros = 0 ∷ 0 ∷ 0 ∷ 0 ∷ []

unfoldable pub p1 : List ℕ
p1 = 22 ∷ 0 ∷ 0 ∷ 0 ∷ 14 ∷ 0 ∷ 0 ∷ 0 ∷ 1 ∷ 0 ∷ 2 ∷ 0 ∷ 0 ∷ 0 ∷ 4 ∷ 0 ∷ 0 ∷ 0 ∷ 0 ∷ 0 ∷ 0 ∷ 0 ∷ []

-- P1's agile entry: 004's second example
unfoldable pub p1_entry : List ℕ
p1_entry =
    2 ∷ 0 ∷ 0 ∷ 0 ∷ 4 ∷ 0 ∷ 0 ∷ 0 ∷ 2 ∷ 0 ∷ 0 ∷ 0 ∷ 4 ∷ 0 ∷ 144 ∷ 105 ∷ 202 ∷ 120 ∷ 231 ∷ 69 ∷ 10 ∷ 40 ∷ 81 ∷ 115 ∷ 67 ∷ 27 ∷ 62 ∷ 82 ∷ 197 ∷ 194 ∷ 82 ∷ 153 ∷ 228 ∷ 115 ∷ 11 ∷ 0 ∷ 223 ∷ 63 ∷ 97 ∷ 152 ∷ 4 ∷ 169 ∷ 47 ∷ 219 ∷ 64 ∷ 87 ∷ 25 ∷ 45 ∷ 196 ∷ 61 ∷ 215 ∷ 72 ∷ 234 ∷ 119 ∷ 138 ∷ 220 ∷ 82 ∷ 188 ∷ 73 ∷ 140 ∷ 232 ∷ 5 ∷ 36 ∷ 192 ∷ 20 ∷ 184 ∷ 17 ∷ 25 ∷ 4 ∷ 0 ∷ 0 ∷ 0 ∷ 0 ∷ 0 ∷ 0 ∷ 0 ∷ []

-- register 2 after P1: the hash of its reset value, then the digest
unfoldable pub p1_sha1 : List ℕ
p1_sha1 = 178 ∷ 168 ∷ 59 ∷ 14 ∷ 191 ∷ 47 ∷ 131 ∷ 116 ∷ 41 ∷ 154 ∷ 91 ∷ 43 ∷ 223 ∷ 195 ∷ 30 ∷ 169 ∷ 85 ∷ 173 ∷ 114 ∷ 54 ∷ []

unfoldable pub p1_sha256 : List ℕ
p1_sha256 = 61 ∷ 69 ∷ 140 ∷ 254 ∷ 85 ∷ 204 ∷ 3 ∷ 234 ∷ 31 ∷ 68 ∷ 63 ∷ 21 ∷ 98 ∷ 190 ∷ 236 ∷ 141 ∷ 245 ∷ 28 ∷ 117 ∷ 225 ∷ 74 ∷ 159 ∷ 207 ∷ 154 ∷ 114 ∷ 52 ∷ 161 ∷ 63 ∷ 25 ∷ 142 ∷ 121 ∷ 105 ∷ []

-- P1 with another register, and with another size and no event
unfoldable pub to_register : ℕ → List ℕ
to_register r = 22 ∷ 0 ∷ 0 ∷ 0 ∷ 14 ∷ 0 ∷ 0 ∷ 0 ∷ 1 ∷ 0 ∷ r ∷ 0 ∷ 0 ∷ 0 ∷ 4 ∷ 0 ∷ 0 ∷ 0 ∷ 0 ∷ 0 ∷ 0 ∷ 0 ∷ []

unfoldable pub of_size : ℕ → List ℕ
of_size n = n ∷ 0 ∷ 0 ∷ 0 ∷ 14 ∷ 0 ∷ 0 ∷ 0 ∷ 1 ∷ 0 ∷ 2 ∷ 0 ∷ 0 ∷ 0 ∷ 4 ∷ 0 ∷ 0 ∷ 0 ∷ []

-- 001's fox sentence
unfoldable pub fox : List ℕ
fox =
    84 ∷ 104 ∷ 101 ∷ 32 ∷ 113 ∷ 117 ∷ 105 ∷ 99 ∷ 107 ∷ 32 ∷ 98 ∷ 114 ∷ 111 ∷ 119 ∷ 110 ∷ 32 ∷ 102 ∷ 111 ∷ 120 ∷ 32 ∷ 106 ∷ 117 ∷ 109 ∷ 112 ∷ 115 ∷ 32 ∷ 111 ∷ 118 ∷ 101 ∷ 114 ∷ 32 ∷ 116 ∷ 104 ∷ 101 ∷ 32 ∷ 108 ∷ 97 ∷ 122 ∷ 121 ∷ 32 ∷ 100 ∷ 111 ∷ 103 ∷ []

-- ---- the table, P1 to P12

unfoldable pub rows : List Row
rows =
    -- P1: the agile entry; used 145, last entry 69
    record { bitmap = 3; old = 100; agile = 200; table = 100; call = ask 0 four_zeros p1; look = logged; expected = 0 ∷ 145 ∷ 1 ∷ 69 ∷ p1_entry }
    -- P2: header-only agile log: last entry 0
    ∷ record { bitmap = 3; old = 100; agile = 200; table = 100; call = reading 2; look = told; expected = 0 ∷ 69 ∷ 1 ∷ 0 ∷ [] }
    -- P3: empty 1.2 log: none
    ∷ record { bitmap = 3; old = 100; agile = 200; table = 100; call = reading 1; look = told; expected = 0 ∷ 0 ∷ 0 ∷ [] }
    -- P4: register 23 good
    ∷ record { bitmap = 3; old = 100; agile = 200; table = 100; call = ask 0 four_zeros (to_register 23); look = status; expected = 0 ∷ [] }
    -- P5: register 24 gives 2
    ∷ record { bitmap = 3; old = 100; agile = 200; table = 100; call = ask 0 four_zeros (to_register 24); look = status; expected = 2 ∷ [] }
    -- P6: size 17 gives 2
    ∷ record { bitmap = 3; old = 100; agile = 200; table = 100; call = ask 0 four_zeros (of_size 17); look = status; expected = 2 ∷ [] }
    -- P7: size 18 is an empty event
    ∷ record { bitmap = 3; old = 100; agile = 200; table = 100; call = ask 0 four_zeros (of_size 18); look = used; expected = 0 ∷ 141 ∷ [] }
    -- P8: agile buffer of 145: P1 fits
    ∷ record { bitmap = 3; old = 100; agile = 145; table = 100; call = ask 0 four_zeros p1; look = logged; expected = 0 ∷ 145 ∷ 1 ∷ 69 ∷ p1_entry }
    -- P9: 144: status 11, used 69, closed, yet extended
    ∷ record { bitmap = 3; old = 100; agile = 144; table = 100; call = ask 0 four_zeros p1; look = extended; expected = 11 ∷ 69 ∷ 1 ∷ (p1_sha1 ++ p1_sha256) }
    -- P10: PE/COFF flag on 001's fox sentence: 3
    ∷ record { bitmap = 3; old = 100; agile = 200; table = 100; call = ask 16 fox p1; look = status; expected = 3 ∷ [] }
    -- P11: with register 24 as well: 2
    ∷ record { bitmap = 3; old = 100; agile = 200; table = 100; call = ask 16 fox (to_register 24); look = status; expected = 2 ∷ [] }
    -- P12: format 3: 2, table not armed
    ∷ record { bitmap = 3; old = 100; agile = 200; table = 100; call = reading 3; look = armed; expected = 2 ∷ 0 ∷ [] }
    ∷ []

-- ---- the test

unfoldable pub same : List ℕ → List ℕ → Bool
same [] [] = true
same [] (y ∷ ys) = false
same (x ∷ xs) [] = false
same (x ∷ xs) (y ∷ ys) = eqb x y && same xs ys

unfoldable pub holds : Row → Bool
holds r = same (seen r) r.expected

unfoldable pub all : List Row → Bool
all [] = true
all (r ∷ rs) = holds r && all rs

-- a row's claim
abbrev pub Claim : Row → Type 0
Claim r = seen r ≡ r.expected

abbrev pub Claims : List Row → Type 0
Claims [] = Unit {0}
Claims (r ∷ rs) = Claim r × Claims rs
