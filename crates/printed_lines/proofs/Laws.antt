-- What the digits of a number are and that the library prints them, a bank's name, the turns of the loop over a bank's registers, and how long
-- lines are. Assumes nothing.
use Rattle.std.proofs.Common.{◌≡◌, refl, sym, ◌∙◌, List, [], ◌∷◌, ◌++◌, ℕ, zero, suc, ◌+◌, ◌-◌, ◌/◌, ◌%◌, ◌^◌, ◌≤◌, ◌<◌, length, replicate, arith, rules, eq-eqb, ne_eqb, add-one, suc-add, zero-add, length-append}
use Rattle.std.specs.Fmt.{decimal as printed}
use Rattle.std.proofs.lemmas.Fmt.{decimal_from_appends, AppendsLastDigit, length-decimal-le}
use Rattle.std.proofs.lemmas.Bool.{lt-ltb, le-ltb}
use Rattle.wire.specs.Bytes.{Put, Room}
use Rattle.wire.proofs.Laws.{then, put_length}
use Rattle.hex_digits.specs.Hex.{hex_of}
use Rattle.bank.specs.Bank.{Bank}
use Rattle.bank.specs.Registers.{value}
use Rattle.printed_lines.specs.Lines.{digits, decimal, feed, name, line_head, register_line, lines_first}

-- ---- the digits of a number

last_digit : AppendsLastDigit digits
unfolding digits
last_digit = search rules

pub digits_none : (k n : ℕ) → k ≡ 0 → digits k n ≡ []
unfolding digits
digits_none k n e = rw e

pub digits_one : (k n : ℕ) → (k ≡ 0 → ⊥) → n < 10 → digits k n ≡ replicate 1 (48 + n)
unfolding digits
digits_one zero n h l = absurd (h refl)
digits_one (suc k) n h l = rw (lt-ltb n 10 l)

pub digits_more : (k n : ℕ) → (k ≡ 0 → ⊥) → 10 ≤ n → digits k n ≡ digits (k - 1) (n / 10) ++ replicate 1 (48 + n % 10)
unfolding digits
digits_more zero n h l = absurd (h refl)
digits_more (suc k) n h l =
    let e : suc k - 1 ≡ k = omega arith in
    rw (le-ltb n 10 l, e)

-- they are those that the library prints
pub decimal_printed : (n : ℕ) → n < 2 ^ 64 → printed n ≡ decimal n
decimal_printed n h = sym (decimal_from_appends digits last_digit 20 n h (length-decimal-le 20 n (omega arith) (omega arith) h))

-- ---- a bank's name

pub name_first : (b : Bank) {a : ℕ} → a ≡ b.algorithm → a ≡ 4 → name b ≡ 115 ∷ (104 ∷ (97 ∷ (49 ∷ [])))
unfolding name
name_first b e h = rw (eq-eqb b.algorithm 4 (sym e ∙ h))

pub name_other : (b : Bank) {a : ℕ} → a ≡ b.algorithm → (a ≡ 4 → ⊥) → name b ≡ 115 ∷ (104 ∷ (97 ∷ (50 ∷ (53 ∷ (54 ∷ [])))))
unfolding name
name_other b e h = rw (ne_eqb b.algorithm 4 (λ q. h (e ∙ q)))

-- ---- a register more of a bank's

pub longer : (b : Bank) (registers : List ℕ) (n k : ℕ) → length (lines_first b n registers) ≤ length (lines_first b (k + n) registers)
unfolding lines_first
longer b registers n zero = rw zero-add (omega arith)
longer b registers n (suc k) = rw suc-add (omega (arith, longer b registers n k, length-append (lines_first b (k + n) registers) (register_line b (k + n) registers)))

module _ (b : Bank) (r : ℕ) (registers : List ℕ) where
  -- a line is its head, the digits of the register's value, and the line feed
  pub put_whole_line : {x d m m' d' : List ℕ} {at j k l : ℕ} → Put d at (line_head b r) j m → Put m j (hex_of x) k m' → Put m' k feed l d' → x ≡ value b r registers
      → Put d at (register_line b r registers) l d'
  unfolding register_line
  put_whole_line p q s e = then p (then (rw e at q) s)

  pub lines_more : lines_first b (r + 1) registers ≡ lines_first b r registers ++ register_line b r registers
  unfolding lines_first
  lines_more = rw (add-one r)

  pub room_line : {d d' : List ℕ} {at p : ℕ} → r < 24 → Room d at (lines_first b 24 registers) → Put d at (lines_first b r registers) p d' → Room d' p (register_line b r registers)
  room_line h k w =
      let e : 23 - r + (r + 1) ≡ 24 = omega arith in
      grind (arith, put_length w, rw (e, lines_more) at (longer b registers (r + 1) (23 - r)), length-append)

  pub put_line : {d d' d'' : List ℕ} {at p p' : ℕ} → Put d at (lines_first b r registers) p d' → Put d' p (register_line b r registers) p' d'' → Put d at (lines_first b (r + 1) registers) p' d''
  put_line w u = rw lines_more (then w u)
