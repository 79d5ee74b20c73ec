-- What measurements make of one bank's registers is the same, whichever other banks are extended beside it. Assumes nothing.
use Rattle.std.proofs.Common.{Bool, true, false, List, [], ◌∷◌, ◌++◌, ◌⊎◌, inl, inr, ◌≡◌, refl, sym, ap, ◌∙◌, ℕ, ◌+◌, ◌≤◌, arith, eqb-true, eqb, length}
use Rattle.std.proofs.lemmas.Bool.{eqb-false}
use Rattle.bank.specs.Bank.{Bank, valid, banks, table, active, active_of, sha1_bank, sha256_bank}
use Rattle.bank.specs.Registers.{digests_length, registers_length, value, extend, extend_all, hashes, reset_all}
use Rattle.bank.proofs.Laws.{All as AllBanks, Lawful, Every, every_banks, Laid, laid_after, laid_banks, banks_1, banks_2, valid_cases, length_extend, length_extend_all, length_reset_all, value_extend_same, value_extend_other, value_extend_apart}
use Rattle.history.specs.History.{Measure, extend_by, made}
use Rattle.history.proofs.Good.{GoodMeasure, All}

-- a bank's registers stand before or behind another's
abbrev pub Apart : Bank → Bank → Type 0
Apart b a = (b.from + b.size ≤ a.from) ⊎ (a.from + a.size ≤ b.from)

-- every register of a bank has the same value
abbrev pub Agree : Bank → List ℕ → List ℕ → Type 0
Agree b x y = (r : ℕ) → r ≤ 23 → value b r x ≡ value b r y

module _ (b : Bank) (lawful : Lawful b) (within : b.from + b.size ≤ digests_length) where
  agree_extend : (r : ℕ) (d x y : List ℕ) → r ≤ 23 → length x ≡ registers_length → length y ≡ registers_length → Agree b x y → Agree b (extend b r d x) (extend b r d y)
  agree_extend r d x y h l k a q j = go (eqb q r) refl
    where
      go : (t : Bool) → eqb q r ≡ t → value b q (extend b r d x) ≡ value b q (extend b r d y)
      go true e =
          let z : q ≡ r = eqb-true q r e in
          rw z (value_extend_same b r d x h l within lawful ∙ ap (λ (v : List ℕ). b.hash (v ++ d)) (a r h) ∙ sym (value_extend_same b r d y h k within lawful))
      go false e =
          let z : q ≡ r → ⊥ = eqb-false q r e in
          value_extend_other b r q d x lawful z ∙ a q j ∙ sym (value_extend_other b r q d y lawful z)

  -- banks that stand apart leave it as it was
  beside : (os : List Bank) (r : ℕ) (ds : List (List ℕ)) (g : List ℕ) → r ≤ 23 → AllBanks (Apart b) os → Every os → Agree b (extend_all os r ds g) g
  unfolding extend_all
  beside [] r ds g h o e q j = refl
  beside (a ∷ os) r [] g h o e q j = refl
  beside (a ∷ os) r (d ∷ ds) g h o e q j =
      beside os r ds (extend a r d g) h o.1 e.1 q j ∙ value_extend_apart a b r q d g h j e.0 o.0

  -- alone and with banks apart from it behind it
  agree_made : (os : List Bank) → AllBanks (Apart b) os → Every os → (ms : List Measure) (x y : List ℕ) → All GoodMeasure ms
      → length x ≡ registers_length → length y ≡ registers_length → Agree b x y → Agree b (extend_by (b ∷ []) ms x) (extend_by (b ∷ os) ms y)
  unfolding extend_by extend_all
  agree_made os o e [] x y g l k a = a
  agree_made os o e (m ∷ ms) x y g l k a =
      let d : List ℕ = b.hash m.message in
      let ds : List (List ℕ) = hashes os m.message in
      let i : Agree b (extend b m.register d x) (extend b m.register d y) = agree_extend m.register d x y g.0.register l k a in
      let z : List ℕ = extend_all os m.register ds (extend b m.register d y) in
      let n : length z ≡ registers_length = length_extend_all os m.register ds (extend b m.register d y) ∙ length_extend b m.register d y ∙ k in
      agree_made os o e ms (extend b m.register d x) z g.1 (length_extend b m.register d x ∙ l) n
      (λ r h. i r h ∙ sym (beside os m.register ds (extend b m.register d y) g.0.register o e r h))

behind : (b : Bank) (os : List Bank) → AllBanks (λ a. b.from + b.size ≤ a.from) os → AllBanks (Apart b) os
behind b [] h = tt
behind b (a ∷ os) h = (inl h.0, behind b os h.1)

-- the active banks behind SHA-1
abbrev others : ℕ → List Bank
others bitmap = active_of bitmap (sha256_bank ∷ [])

-- SHA-1 stands first in the table: what measurements make of its registers, alone and with the other active banks
pub agree_sha1 : (bitmap : ℕ) (ms : List Measure) → active bitmap sha1_bank ≡ true → All GoodMeasure ms → Agree sha1_bank (made (sha1_bank ∷ []) ms) (made (banks bitmap) ms)
unfolding made
agree_sha1 bitmap ms a g =
    let e : banks bitmap ≡ sha1_bank ∷ others bitmap = unfold banks table in (rw a) in
    let laid : Laid 0 (sha1_bank ∷ others bitmap) = rw e at (laid_banks bitmap) in
    let every : Every (sha1_bank ∷ others bitmap) = rw e at (every_banks bitmap) in
    rw e (agree_made sha1_bank every.0 (omega arith) (others bitmap) (behind sha1_bank (others bitmap) (laid_after 20 (others bitmap) laid.1)) every.1 ms reset_all reset_all g length_reset_all length_reset_all (λ r h. refl))

-- ---- a bank that isn't active stays reset

module _ (b : Bank) (bs : List Bank) (apart : AllBanks (Apart b) bs) (every : Every bs) where
  pub stays : (lawful : Lawful b) (within : b.from + b.size ≤ digests_length) (ms : List Measure) (g : List ℕ) → All GoodMeasure ms → Agree b (extend_by bs ms g) g
  unfolding extend_by
  stays lawful within [] g a r h = refl
  stays lawful within (m ∷ ms) g a r h =
      stays lawful within ms (extend_all bs m.register (hashes bs m.message) g) a.1 r h
      ∙ beside b lawful within bs m.register (hashes bs m.message) g a.0.register apart every r h

pub sha1_reset : (bitmap : ℕ) (ms : List Measure) → valid bitmap ≡ true → active bitmap sha1_bank ≡ false → All GoodMeasure ms → Agree sha1_bank (made (banks bitmap) ms) reset_all
unfolding made
sha1_reset bitmap ms v a g = go (valid_cases bitmap v)
  where
    lawful : Lawful sha1_bank
    lawful = (rw banks_1 at (every_banks 1)).0

    go : (bitmap ≡ 1) ⊎ ((bitmap ≡ 2) ⊎ (bitmap ≡ 3)) → Agree sha1_bank (extend_by (banks bitmap) ms reset_all) reset_all
    go (inl e) = absurd (let z : true ≡ false = rw e at a in let y : ◌≡◌ {A = ℕ} 0 1 = cc in omega arith)
    go (inr (inl e)) =
        rw (e, banks_2) (stays sha1_bank (sha256_bank ∷ []) (inl (omega arith), tt) (rw banks_2 at (every_banks 2)) lawful (omega arith) ms reset_all g)
    go (inr (inr e)) = absurd (let z : true ≡ false = rw e at a in let y : ◌≡◌ {A = ℕ} 0 1 = cc in omega arith)

pub sha256_reset : (bitmap : ℕ) (ms : List Measure) → valid bitmap ≡ true → active bitmap sha256_bank ≡ false → All GoodMeasure ms → Agree sha256_bank (made (banks bitmap) ms) reset_all
unfolding made
sha256_reset bitmap ms v a g = go (valid_cases bitmap v)
  where
    lawful : Lawful sha256_bank
    lawful = (rw banks_2 at (every_banks 2)).0

    go : (bitmap ≡ 1) ⊎ ((bitmap ≡ 2) ⊎ (bitmap ≡ 3)) → Agree sha256_bank (extend_by (banks bitmap) ms reset_all) reset_all
    go (inl e) = rw (e, banks_1) (stays sha256_bank (sha1_bank ∷ []) (inr (omega arith), tt) (rw banks_1 at (every_banks 1)) lawful (omega arith) ms reset_all g)
    go (inr (inl e)) = absurd (let z : true ≡ false = rw e at a in let y : ◌≡◌ {A = ℕ} 0 1 = cc in omega arith)
    go (inr (inr e)) = absurd (let z : true ≡ false = rw e at a in let y : ◌≡◌ {A = ℕ} 0 1 = cc in omega arith)
