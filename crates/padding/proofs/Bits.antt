-- Other ways to compute Ch and Maj: each bit of the one is that bit of the other. Assumes nothing.
use Rattle.std.proofs.Common.{◌≡◌, ℕ, zero, suc, ◌-◌, ◌/◌, ◌^◌, ◌<◌, bit_and, bit_xor, lt_of_le_of_lt, pow-suc, arith, sym, ap, ◌∙◌}
use Rattle.std.specs.Int.{bit_at}
use Rattle.std.proofs.lemmas.Nat.{and_le_l, and_le_r, xor_lt}
use Rattle.std.proofs.lemmas.Nat.Bits.{bit_at_and, bit_at_lowest, bit_at-suc, bit_at_xor, same_from_bits, same_from_bits_below}
use Rattle.padding.specs.Words.{bit_not, ch, maj}

-- each bit of the complement, at any width
bit_at_complement : (k x i : ℕ) → x < 2 ^ k → i < k → bit_at (bit_not k x) i ≡ 1 - bit_at x i
bit_at_complement zero x i hx h = absurd (omega arith)
bit_at_complement (suc k) x zero hx h = omega (arith, bit_at_lowest (bit_not (suc k) x), bit_at_lowest x, pow-suc 2 k)
bit_at_complement (suc k) x (suc i) hx h =
    let half : bit_not (suc k) x / 2 ≡ bit_not k (x / 2) = omega (arith, pow-suc 2 k) in
    bit_at-suc _ i ∙ ap (λ n. bit_at n i) half ∙ bit_at_complement k (x / 2) i (omega (arith, pow-suc 2 k)) (omega arith) ∙ ap (λ b. 1 - b) (sym (bit_at-suc x i))

-- Ch, at any width
pub choose_is : (k x y z : ℕ) → x < 2 ^ k → z < 2 ^ k → bit_xor (bit_and (bit_xor y z) x) z ≡ ch k x y z
choose_is k x y z hx hz =
    let a = xor_lt k (bit_and (bit_xor y z) x) z (lt_of_le_of_lt (and_le_r (bit_xor y z) x) hx) hz in
    let b = xor_lt k (bit_and x y) (bit_and (bit_not k x) z) (lt_of_le_of_lt (and_le_l x y) hx) (lt_of_le_of_lt (and_le_r (bit_not k x) z) hz) in
    same_from_bits_below k _ _ a b (λ i h. simp (bit_at_xor, bit_at_and, bit_at_complement k x i hx h) (omega arith))

-- and at the width of `choose`
pub choose_32 : (x y z : ℕ) → x < 2 ^ 32 → z < 2 ^ 32 → bit_xor (bit_and (bit_xor y z) x) z ≡ ch 32 x y z
choose_32 = choose_is 32

-- Maj, of any numbers
pub majority_is : (x y z : ℕ) → bit_xor (bit_and (bit_xor x y) (bit_xor y z)) y ≡ maj x y z
majority_is x y z = same_from_bits _ _ (λ i. simp (bit_at_xor, bit_at_and) (omega arith))
