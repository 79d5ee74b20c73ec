-- The decimal digits of a number spell it, without a zero in front. Assumes nothing.
use Rattle.std.proofs.Common.{List, [], ◌∷◌, ◌++◌, ◌≡◌, refl, ℕ, zero, suc, ◌+◌, ◌-◌, ◌*◌, ◌/◌, ◌%◌, ◌^◌, ◌<◌, pow-suc, arith, replicate, get_or}
use Rattle.printed_lines.specs.Lines.{digits, decimal}

-- the number that digits spell behind the number n
abbrev pub spelled : ℕ → List ℕ → ℕ
spelled n [] = n
spelled n (c ∷ cs) = spelled (n * 10 + (c - 48)) cs

spelled_last : (n : ℕ) (cs : List ℕ) (c : ℕ) → spelled n (cs ++ replicate 1 c) ≡ spelled n cs * 10 + (c - 48)
spelled_last n [] c = refl
spelled_last n (d ∷ cs) c = spelled_last (n * 10 + (d - 48)) cs c

-- a number below 10 ^ k is spelled by its digits
pub digits_spell : (k n : ℕ) → n < 10 ^ k → spelled 0 (digits k n) ≡ n
unfolding digits
digits_spell zero n h = omega arith
digits_spell (suc k) n h = grind (arith, digits_spell k (n / 10), spelled_last 0 (digits k (n / 10)) (48 + n % 10), pow-suc 10 k)

-- every number that a usize holds
pub decimal_spells : (n : ℕ) → n < 2 ^ 64 → spelled 0 (decimal n) ≡ n
decimal_spells n h = digits_spell 20 n (omega arith)

front : (xs ys : List ℕ) → 48 < get_or xs 0 0 → 48 < get_or (xs ++ ys) 0 0
front [] ys h = absurd (omega arith)
front (x ∷ xs) ys h = h

-- no zero stands in front of another number's digits
pub digits_front : (k n : ℕ) → 0 < n → n < 10 ^ k → 48 < get_or (digits k n) 0 0
unfolding digits
digits_front zero n z h = absurd (omega arith)
digits_front (suc k) n z h = grind (arith, digits_front k (n / 10), front (digits k (n / 10)) (replicate 1 (48 + n % 10)), pow-suc 10 k)
