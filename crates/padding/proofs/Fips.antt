-- FIPS 180-4, 5.1.1 and 5.1.2, in the standard's own words: k zero bits are appended after the bit 1, where k is the smallest solution of
-- l + 1 + k ≡ 448 mod 512 (896 mod 1024); l counts bits. Seven of the zero bits stand in the byte 128. Assumes nothing.
use Rattle.std.proofs.Common.{◌≡◌, ℕ, ◌+◌, ◌*◌, ◌%◌, ◌≤◌, arith}
use Rattle.padding.specs.Padding.{blocks, zeros}

pub solution_64 : (n : ℕ) → (n * 8 + 1 + (7 + zeros 64 8 n * 8)) % 512 ≡ 448
unfolding blocks zeros
solution_64 n = omega arith

pub smallest_64 : (n k : ℕ) → (n * 8 + 1 + k) % 512 ≡ 448 → 7 + zeros 64 8 n * 8 ≤ k
unfolding blocks zeros
smallest_64 n k h = omega arith

pub solution_128 : (n : ℕ) → (n * 8 + 1 + (7 + zeros 128 16 n * 8)) % 1024 ≡ 896
unfolding blocks zeros
solution_128 n = omega arith

pub smallest_128 : (n k : ℕ) → (n * 8 + 1 + k) % 1024 ≡ 896 → 7 + zeros 128 16 n * 8 ≤ k
unfolding blocks zeros
smallest_128 n k h = omega arith
