-- Blocks taken one by one, and where the last ones end. Assumes nothing.
use Rattle.std.proofs.Common.{◌≡◌, ℕ, ◌+◌, ◌*◌, ◌/◌, ◌%◌, ◌<◌, ◌≤◌, List, ◌++◌, length, sym, ap, ◌∙◌, le_of_eq, zero-mul, one-mul, take_all, length-append, mul-le-mul_right, mod-lt, arith}
use Rattle.std.proofs.Math.Nat.{div-eq_of_lt, div-lt_iff_lt-mul, mul-add-div_right}
use Rattle.padding.specs.Words.{run}
use Rattle.padding.specs.Padding.{chain, absorbed}
use Rattle.padding.proofs.Laws.{chain_append}

module _ {S : Type 0} (f : S → List ℕ → S) (B : ℕ) where
  -- a block and then the rest
  pub absorbed_block : (b rest : List ℕ) (s : S) → 0 < B → length b ≡ B → absorbed f B (b ++ rest) s ≡ absorbed f B rest (f s b)
  unfolding absorbed run
  absorbed_block b rest s h e =
      let q : ℕ = length rest / B in
      let n : length (b ++ rest) / B ≡ 1 + q = ap (λ (k : ℕ). k / B) (length-append b rest ∙ ap (λ (k : ℕ). k + length rest) (e ∙ sym (one-mul B))) ∙ mul-add-div_right h 1 (length rest) in
      let one : chain f B 1 b s ≡ f s b = rw (zero-mul B, take_all B b (le_of_eq e)) in
      ap (λ (k : ℕ). chain f B k (b ++ rest) s) n ∙ chain_append f B 1 q b rest s (e ∙ sym (one-mul B)) ∙ ap (chain f B q rest) one

  -- a turn of a loop over blocks: what is to come leads from v to where it led from s
  pub absorbed_step : {b all : List ℕ} (rest : List ℕ) {s v : S} (x : S) {k : ℕ} → 0 < B → length b ≡ k → k ≡ B → all ≡ b ++ rest → v ≡ f s b → absorbed f B all s ≡ x → absorbed f B rest v ≡ x
  absorbed_step {b} rest {s = s} x h l e a q p =
      ap (absorbed f B rest) q ∙ sym (absorbed_block b rest s h (l ∙ e)) ∙ sym (ap (λ (y : List ℕ). absorbed f B y s) a) ∙ p

  -- no whole block is left
  pub absorbed_none : (rest : List ℕ) (s : S) → length rest < B → absorbed f B rest s ≡ s
  unfolding absorbed run
  absorbed_none rest s h = rw (div-eq_of_lt h)

-- what is left of a message and its length are two blocks at most
pub last_two : (B L n rest : ℕ) → L < B → n % B ≡ rest → (rest + L) / B * B + B ≤ 2 * B
last_two B L n rest g e =
    let h : n % B < B = mod-lt n (omega arith) in
    let k : (rest + L) / B < 2 = (div-lt_iff_lt-mul (omega arith)).1 (omega arith) in
    omega (arith, mul-le-mul_right {m = (rest + L) / B} {n = 1} B (omega arith))
