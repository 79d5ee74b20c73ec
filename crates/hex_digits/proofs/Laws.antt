-- How many digits there are, the loop that writes them, and the digits as text. Assumes nothing.
use Rattle.std.proofs.Common.{◌≡◌, ℕ, suc, ◌+◌, ◌*◌, ◌/◌, ◌%◌, ◌≤◌, ◌<◌, List, [], ◌∷◌, ◌++◌, length, set, take, drop, get_or, refl, ap, ◌∙◌, arith, zero-add, drop-cons, drop_of_length-le, length-set}
use Rattle.std.proofs.lemmas.List.Edits.{sets}
use Rattle.std.proofs.lemmas.Slice.{take-put_mid_below}
use Rattle.std.proofs.lemmas.Str.{IsUtf8-from_ascii}
use Rattle.std.proofs.lemmas.Str.Ascii.{IsAscii-nil, IsAscii-cons}
use Rattle.std.specs.Str.{IsAscii, IsUtf8}
use Rattle.wire.specs.Bytes.{Put}
use Rattle.wire.proofs.Laws.{part_put}
use Rattle.hex_digits.specs.Hex.{digit_of, hex_of}

pub length_hex : (s : List ℕ) → length (hex_of s) ≡ length s * 2
unfolding hex_of
length_hex [] = refl
length_hex (b ∷ bs) = ap (λ (n : ℕ). suc (suc n)) (length_hex bs) ∙ omega arith

-- what is left to write before a turn is the turn's two digits and what is left after it
pub hex_turn : (d s : List ℕ) (at i : ℕ) {x y : ℕ} → i < length s → x ≡ digit_of (get_or s i 0 / 16) → y ≡ digit_of (get_or s i 0 % 16)
    → sets (set (set d (at + i * 2) x) (at + i * 2 + 1) y) (at + (i + 1) * 2) (hex_of (drop (i + 1) s)) ≡ sets d (at + i * 2) (hex_of (drop i s))
unfolding hex_of
hex_turn d s at i h p q =
    let k : i + 1 ≡ suc i = omega arith in
    let a : at + i * 2 + 1 ≡ suc (at + i * 2) = omega arith in
    let b : at + suc i * 2 ≡ suc (suc (at + i * 2)) = omega arith in
    rw (drop-cons s i 0 h, k, a, b, p, q)

-- the end of the loop: nothing is left to write
pub hex_end : (d₀ d s : List ℕ) (at i : ℕ) → length s ≤ i → sets d (at + i * 2) (hex_of (drop i s)) ≡ sets d₀ at (hex_of s)
    → Put d₀ at (hex_of s) (at + length s * 2) d
unfolding hex_of
hex_end d₀ d s at i h e = record { next = rw length_hex; bytes = rw (drop_of_length-le s h) at e }

-- the digits of bytes joined
pub hex_append : (a b : List ℕ) → hex_of (a ++ b) ≡ hex_of a ++ hex_of b
unfolding hex_of
hex_append [] b = refl
hex_append (x ∷ a) b = rw (hex_append a b)

-- the digits of bytes are characters below 128, so they are text
digit_ascii : (n : ℕ) → n < 16 → digit_of n < 128
digit_ascii n h = grind arith

ascii_hex : (s : List ℕ) → ((i : ℕ) → get_or s i 0 < 256) → IsAscii (hex_of s)
unfolding hex_of
ascii_hex [] h = IsAscii-nil
ascii_hex (b ∷ bs) h =
    let f : b < 256 = h 0 in
    IsAscii-cons _ (digit_of (b % 16) ∷ hex_of bs) (digit_ascii (b / 16) (omega arith))
    (IsAscii-cons _ (hex_of bs) (digit_ascii (b % 16) (omega arith)) (ascii_hex bs (λ i. h (suc i))))

pub no_fault : (text s : List ℕ) → text ≡ hex_of s → ((i : ℕ) → get_or s i 0 < 256) → (IsUtf8 text → ⊥) → ⊥
no_fault text s e h k = k (rw e (IsUtf8-from_ascii (hex_of s) (ascii_hex s h)))

-- what stands in front of the place that `put_hex` says, when it wrote at the front
pub front_hex : (d d' s : List ℕ) (r : ℕ) → length s * 2 ≤ length d → Put d 0 (hex_of s) r d' → take r d' ≡ hex_of s
front_hex d d' s r h p = rw (p.next, zero-add (length (hex_of s))) (part_put {at = 0} (record { fits = omega (arith, length_hex s) }) p)

-- what the check tries at each goal of `put_hex`
pub ruleset writing = (length_hex, length-set, hex_turn, hex_end)

-- what the check tries at each goal of `hex_text`: the digits stand in front, and what is written behind them leaves them there
pub ruleset showing = (length_hex, front_hex, take-put_mid_below)
