-- SHA-1 (FIPS 180-4, 4.1.1, 4.2.1, 5.3.1, 6.1). `State` is a hash value, and the working variables.
use Rattle.std.specs.Prelude.{◌≡◌, cond, List, ◌++◌, ℕ, ◌+◌, ltb, get_or}
use Rattle.std.proofs.Common.{sym, ◌∙◌}
use Rattle.std.specs.Int.Bits.{bit_xor}
use Rattle.padding.specs.Words.{rotl, plus, ch, maj, parity, run, grow, words, bytes}
use Rattle.padding.specs.Padding.{hash}
use Rattle.sha1_hash.specs.declared.State.{State}

-- 4.1.1: the function of round t
unfoldable pub f : ℕ → ℕ → ℕ → ℕ → ℕ
f t x y z = cond (ltb t 20) (ch 32 x y z) (cond (ltb t 40) (parity x y z) (cond (ltb t 60) (maj x y z) (parity x y z)))

-- 4.2.1: the constant of round t
unfoldable pub K : ℕ → ℕ
K t = cond (ltb t 20) 0x5a827999 (cond (ltb t 40) 0x6ed9eba1 (cond (ltb t 60) 0x8f1bbcdc 0xca62c1d6))

-- 6.1.2, 1: the word W of t + 16
abbrev pub next : ℕ → List ℕ → ℕ
next t ws = rotl 32 1 (bit_xor (bit_xor (bit_xor (get_or ws (t + 13) 0) (get_or ws (t + 8) 0)) (get_or ws (t + 2) 0)) (get_or ws t 0))

-- 6.1.2, 1: the message schedule that starts with the block's sixteen words
unfoldable pub expanded : List ℕ → List ℕ
expanded ws = grow next 64 ws

-- 6.1.2, 3: a round with the function's value v, the constant k and the word w
abbrev pub turn : ℕ → ℕ → ℕ → State → State
turn v k w s =
    record {
      a = plus 32 (plus 32 (plus 32 (plus 32 (rotl 32 5 s.a) v) s.e) k) w;
      b = s.a;
      c = rotl 32 30 s.b;
      d = s.c;
      e = s.d;
    }

-- 6.1.2, 3: round t of the schedule ws
abbrev pub step : List ℕ → ℕ → State → State
step ws t s = turn (f t s.b s.c s.d) (K t) (get_or ws t 0) s

-- 6.1.2, 4
abbrev pub join : State → State → State
join s t =
    record {
      a = plus 32 s.a t.a;
      b = plus 32 s.b t.b;
      c = plus 32 s.c t.c;
      d = plus 32 s.d t.d;
      e = plus 32 s.e t.e;
    }

-- 6.1.2, 2 to 4: the hash value after s and the schedule ws
unfoldable pub rounds : List ℕ → State → State
rounds ws s = join (run (step ws) 80 s) s

-- 6.1.2: the hash value after s and the block m
unfoldable pub compress : State → List ℕ → State
compress s m = rounds (expanded (words 4 16 m)) s

-- 5.3.1
unfoldable pub H₀ : State
H₀ = record { a = 0x67452301; b = 0xefcdab89; c = 0x98badcfe; d = 0x10325476; e = 0xc3d2e1f0 }

-- 6.1.2: the hash value as bytes
unfoldable pub output : State → List ℕ
output s = bytes 4 s.a ++ (bytes 4 s.b ++ (bytes 4 s.c ++ (bytes 4 s.d ++ bytes 4 s.e)))

-- 6.1: the digest of a message
unfoldable pub sha1 : List ℕ → List ℕ
sha1 m = output (hash compress 64 8 H₀ m)

-- a round whose function is g and whose constant is k
abbrev pub step_of : (ℕ → ℕ → ℕ → ℕ) → ℕ → List ℕ → ℕ → State → State
step_of g k ws t s = turn (g s.b s.c s.d) k (get_or ws t 0) s

-- no second answer is the digest of m
pub unique : (m r r' : List ℕ) → r ≡ sha1 m → r' ≡ sha1 m → r ≡ r'
unique m r r' p q = p ∙ sym q
