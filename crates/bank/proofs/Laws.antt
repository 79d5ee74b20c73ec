-- The laws of banks and of their registers, over any list of banks; those of the table at the end of each part. Assumes nothing.
use Rattle.std.proofs.Common.{Bool, true, false, ◌⊎◌, inl, inr, ⊎_elim, ◌≡◌, refl, sym, ap, ap₂, ◌∙◌, List, [], ◌∷◌, ◌++◌, append_assoc, ℕ, zero, suc, ◌+◌, ◌-◌, ◌*◌, ◌≤◌, ◌<◌, suc-mul, eq-or-lt_of_le, mul-le-mul_right, arith, leb-true, ltb-true, ltb-false, eqb-true, leb, ltb, eqb, length, take, drop, get_or, set, replicate, length-append, length-drop, length-take-le, drop-set-lt}
use Rattle.std.proofs.lemmas.Bool.{eqb-false}
use Rattle.std.proofs.Math.ListN.{length-replicate}
use Rattle.std.proofs.Math.Seq.{sets, length-sets, drop-set-add, take-set-le}
use Rattle.wire.specs.Bytes.{part}
use Rattle.wire.proofs.Laws.{part_here, part_put}
use Rattle.wire.proofs.Tests.{both}
use Rattle.padding.specs.Padding.{hash}
use Rattle.padding.specs.Sha2.{compress}
use Rattle.sha1_hash.specs.Sha1 as Sha1
use Rattle.sha1_hash.proofs.Laws as sha1-laws
use Rattle.sha256.specs.Sha256 as Sha256
use Rattle.sha256.proofs.Laws as sha256-laws
use Rattle.bank.specs.Bank.{Bank, sha1_bank, sha256_bank, table, rows, active, keep, active_of, valid, banks}
use Rattle.bank.specs.Registers.{digests_length, registers_length, place, value, extend, extend_all, reset_first, reset_of, reset_all, digest_in, digests_in, hash_all, hashes}

-- ---- lists of banks

-- what holds of each of some banks
abbrev pub All : (Bank → Type 0) → List Bank → Type 0
All P [] = Unit {0}
All P (b ∷ bs) = P b × All P bs

module _ (P : Bank → Type 0) where
  -- it holds of those that are kept
  kept : (t : Bool) (b : Bank) (bs : List Bank) → P b → All P bs → All P (keep t b bs)
  kept true b bs h k = (h, k)
  kept false b bs h k = k

  -- it holds of the active ones
  pub all_active : (bitmap : ℕ) (bs : List Bank) → All P bs → All P (active_of bitmap bs)
  all_active bitmap [] h = h
  all_active bitmap (b ∷ bs) h = kept (active bitmap b) b (active_of bitmap bs) h.0 (all_active bitmap bs h.1)

  -- it holds of the one at a place
  pub all_at : (bs : List Bank) (d : Bank) (i : ℕ) → All P bs → i < length bs → P (get_or bs i d)
  all_at [] d i h k = absurd (omega arith)
  all_at (b ∷ bs) d zero h k = h.0
  all_at (b ∷ bs) d (suc i) h k = all_at bs d i h.1 (omega arith)

  -- what holds of each bank of the table holds of each active one
  pub all_banks : (bitmap : ℕ) → All P table → All P (banks bitmap)
  unfolding banks
  all_banks bitmap h = all_active bitmap table h

-- what the crates above build on: each digest has the bank's length, and the numbers fit the fields that hold them
pub record Lawful (b : Bank) : Type 0 where
  pub sized : (m : List ℕ) → length (b.hash m) ≡ b.size
  pub algorithm16 : b.algorithm < 65536
  pub size16 : b.size < 65536
  pub bit1 : 0 < b.bit

abbrev pub Every : List Bank → Type 0
Every = All Lawful

pub every_active : (bitmap : ℕ) (bs : List Bank) → Every bs → Every (active_of bitmap bs)
every_active = all_active Lawful

lawful1 : Lawful sha1_bank
unfolding Sha1.sha1
lawful1 =
    record {
      sized = λ m. sha1-laws.length_output (hash Sha1.compress 64 8 Sha1.H₀ m);
      algorithm16 = omega arith;
      size16 = omega arith;
      bit1 = omega arith;
    }

lawful256 : Lawful sha256_bank
unfolding Sha256.sha256
lawful256 =
    record {
      sized = λ m. sha256-laws.length_output (hash (compress Sha256.P) 64 8 Sha256.H₀ m);
      algorithm16 = omega arith;
      size16 = omega arith;
      bit1 = omega arith;
    }

pub every_table : Every table
unfolding table
every_table = (lawful1, (lawful256, tt))

pub every_banks : (bitmap : ℕ) → Every (banks bitmap)
every_banks bitmap = all_banks Lawful bitmap every_table

-- ---- where the digests stand

-- the digests of some banks stand one after another, from place n on and before the end
abbrev pub Laid : ℕ → List Bank → Type 0
Laid n [] = n ≤ digests_length
Laid n (b ∷ bs) = (n ≤ b.from) × Laid (b.from + b.size) bs

-- the same with nothing between them, up to the end
abbrev pub Tight : ℕ → List Bank → Type 0
Tight n [] = n ≡ digests_length
Tight n (b ∷ bs) = (b.from ≡ n) × Tight (b.from + b.size) bs

-- what is laid from m on is laid from any earlier place on
pub laid_before : (n m : ℕ) (bs : List Bank) → n ≤ m → Laid m bs → Laid n bs
laid_before n m [] h l = omega arith
laid_before n m (b ∷ bs) h l = (omega arith, l.1)

-- the active ones among them are laid too
pub laid_active : (bitmap n : ℕ) (bs : List Bank) → Laid n bs → Laid n (active_of bitmap bs)
laid_active bitmap n [] l = l
laid_active bitmap n (b ∷ bs) l = go (active bitmap b) (laid_active bitmap (b.from + b.size) bs l.1)
  where
    go : (t : Bool) → Laid (b.from + b.size) (active_of bitmap bs) → Laid n (keep t b (active_of bitmap bs))
    go true k = (l.0, k)
    go false k = laid_before n (b.from + b.size) (active_of bitmap bs) (omega arith) k

-- they end before the end, and so does each of them
pub laid_end : (n : ℕ) (bs : List Bank) → Laid n bs → n ≤ digests_length
laid_end n [] l = l
laid_end n (b ∷ bs) l = omega (arith, laid_end (b.from + b.size) bs l.1)

abbrev pub Within : Bank → Type 0
Within b = b.from + b.size ≤ digests_length

pub laid_within : (n : ℕ) (bs : List Bank) → Laid n bs → All Within bs
laid_within n [] l = tt
laid_within n (b ∷ bs) l = (laid_end (b.from + b.size) bs l.1, laid_within (b.from + b.size) bs l.1)

-- and each starts behind what stands before them all
pub laid_after : (n : ℕ) (bs : List Bank) → Laid n bs → All (λ b. n ≤ b.from) bs
laid_after n [] l = tt
laid_after n (b ∷ bs) l = (l.0, laid_after n bs (laid_before n (b.from + b.size) bs (omega arith) l.1))

pub tight_laid : (n : ℕ) (bs : List Bank) → Tight n bs → Laid n bs
tight_laid n [] t = omega arith
tight_laid n (b ∷ bs) t = (omega arith, tight_laid (b.from + b.size) bs t.1)

pub tight_table : Tight 0 table
unfolding table
tight_table = (refl, (refl, refl))

pub laid_table : Laid 0 table
laid_table = tight_laid 0 table tight_table

pub laid_banks : (bitmap : ℕ) → Laid 0 (banks bitmap)
unfolding banks
laid_banks bitmap = laid_active bitmap 0 table laid_table

-- ---- a part beside a run of stores stays, and the run itself is found

part_set : (l : List ℕ) (i v j n : ℕ) → (j + n ≤ i) ⊎ (i < j) → part (set l i v) j n ≡ part l j n
part_set l i v j n h = ⊎_elim (λ k. before k) (λ k. ap (take n) (drop-set-lt j l i v k)) h
  where
    before : j + n ≤ i → part (set l i v) j n ≡ part l j n
    before k =
        let e : j + (i - j) ≡ i = omega arith in
        rw (← e, drop-set-add j l (i - j) v) (take-set-le n (drop j l) (i - j) v (omega arith))

pub part_beside : (vs l : List ℕ) (i j n : ℕ) → (j + n ≤ i) ⊎ (i + length vs ≤ j) → part (sets l i vs) j n ≡ part l j n
part_beside [] l i j n h = refl
part_beside (v ∷ vs) l i j n h =
    part_beside vs (set l i v) (suc i) j n (⊎_elim (λ k. inl (omega arith)) (λ k. inr (omega arith)) h)
    ∙ part_set l i v j n (⊎_elim (λ k. inl k) (λ k. inr (omega arith)) h)

pub part_same : (vs l : List ℕ) (i n : ℕ) → length vs ≡ n → i + n ≤ length l → part (sets l i vs) i n ≡ vs
part_same vs l i n e h =
    rw (← e) (part_put {d = l} {bs = vs} {at = i} (record { fits = omega arith }) (record { next = refl; bytes = refl }))

-- ---- the digests of a message

pub length_digest_in : (b : Bank) (digests : List ℕ) → length digests ≡ digests_length → b.from + b.size ≤ digests_length → length (digest_in digests b) ≡ b.size
length_digest_in b digests l w = length-take-le b.size (drop b.from digests) (rw length-drop (omega arith))

pub length_hash_all : (bs : List Bank) (message digests : List ℕ) → length (hash_all bs message digests) ≡ length digests
unfolding hash_all
length_hash_all [] message digests = refl
length_hash_all (b ∷ bs) message digests =
    length_hash_all bs message (sets digests b.from (b.hash message)) ∙ length-sets digests b.from (b.hash message)

-- what stands before the banks' places stays
before_hash_all : (n j k : ℕ) (bs : List Bank) (message digests : List ℕ) → Laid n bs → j + k ≤ n → part (hash_all bs message digests) j k ≡ part digests j k
unfolding hash_all
before_hash_all n j k [] message digests l h = refl
before_hash_all n j k (b ∷ bs) message digests l h =
    before_hash_all (b.from + b.size) j k bs message (sets digests b.from (b.hash message)) l.1 (omega arith)
    ∙ part_beside (b.hash message) digests b.from j k (inl (omega arith))

-- the digest of each bank is then found in its place
pub hashed_of : (n : ℕ) (bs : List Bank) (message digests : List ℕ) → Laid n bs → Every bs → length digests ≡ digests_length
    → digests_in bs (hash_all bs message digests) ≡ hashes bs message
unfolding hash_all
hashed_of n [] message digests l e h = refl
hashed_of n (b ∷ bs) message digests l e h =
    let w : b.from + b.size ≤ digests_length = laid_end (b.from + b.size) bs l.1 in
    let d : List ℕ = sets digests b.from (b.hash message) in
    let here : part d b.from b.size ≡ b.hash message = part_same (b.hash message) digests b.from b.size (e.0.sized message) (omega arith) in
    let k : length d ≡ digests_length = length-sets digests b.from (b.hash message) ∙ h in
    ap₂ (λ (x : List ℕ) (xs : List (List ℕ)). x ∷ xs) (before_hash_all (b.from + b.size) b.from b.size bs message d l.1 (omega arith) ∙ here)
    (hashed_of (b.from + b.size) bs message d l.1 e.1 k)

pub hashed : (bitmap : ℕ) (message digests : List ℕ) → length digests ≡ digests_length
    → digests_in (banks bitmap) (hash_all (banks bitmap) message digests) ≡ hashes (banks bitmap) message
hashed bitmap message digests h = hashed_of 0 (banks bitmap) message digests (laid_banks bitmap) (every_banks bitmap) h

-- ---- extending

pub length_extend : (b : Bank) (r : ℕ) (d registers : List ℕ) → length (extend b r d registers) ≡ length registers
unfolding extend
length_extend b r d registers = simp length-sets

pub length_extend_all : (bs : List Bank) (r : ℕ) (ds : List (List ℕ)) (registers : List ℕ) → length (extend_all bs r ds registers) ≡ length registers
unfolding extend_all
length_extend_all [] r ds registers = refl
length_extend_all (b ∷ bs) r [] registers = refl
length_extend_all (b ∷ bs) r (d ∷ ds) registers = length_extend_all bs r ds (extend b r d registers) ∙ length_extend b r d registers

-- the 24 registers of a bank end where its place ends
pub place_end : (b : Bank) (r : ℕ) → r ≤ 23 → place b r + b.size ≤ 24 * (b.from + b.size)
place_end b r h =
    let k : r * b.size ≤ 23 * b.size = mul-le-mul_right b.size h in
    omega arith

-- a register ends before a later one
pub place_next : (b : Bank) (q r : ℕ) → q < r → place b q + b.size ≤ place b r
place_next b q r h =
    let k : suc q * b.size ≤ r * b.size = mul-le-mul_right b.size h in
    omega (arith, suc-mul q b.size)

-- 01: "Extending a register sets it to the bank's hash of (old value, then digest)"
pub value_extend_same : (b : Bank) (r : ℕ) (d registers : List ℕ) → r ≤ 23 → length registers ≡ registers_length → b.from + b.size ≤ digests_length → Lawful b
    → value b r (extend b r d registers) ≡ b.hash (value b r registers ++ d)
unfolding extend
value_extend_same b r d registers h e w k =
    part_same (b.hash (value b r registers ++ d)) registers (place b r) b.size (k.sized (value b r registers ++ d)) (omega (arith, place_end b r h))

-- every other register of the bank stays
pub value_extend_other : (b : Bank) (r q : ℕ) (d registers : List ℕ) → Lawful b → (q ≡ r → ⊥) → value b q (extend b r d registers) ≡ value b q registers
unfolding extend
value_extend_other b r q d registers k n = part_beside x registers (place b r) (place b q) b.size (go (ltb q r) refl)
  where
    x : List ℕ
    x = b.hash (value b r registers ++ d)

    go : (t : Bool) → ltb q r ≡ t → (place b q + b.size ≤ place b r) ⊎ (place b r + length x ≤ place b q)
    go true e = inl (place_next b q r (ltb-true q r e))
    go false e = inr (omega (arith, k.sized (value b r registers ++ d), place_next b r q (⊎_elim (λ s. absurd (n (sym s))) (λ s. s) (eq-or-lt_of_le (ltb-false q r e)))))

-- so do the registers of a bank whose place is before it or after it (`laid_after` tells which)
pub value_extend_apart : (b a : Bank) (r q : ℕ) (d registers : List ℕ) → r ≤ 23 → q ≤ 23 → Lawful b → (a.from + a.size ≤ b.from) ⊎ (b.from + b.size ≤ a.from)
    → value a q (extend b r d registers) ≡ value a q registers
unfolding extend
value_extend_apart b a r q d registers hr hq k n =
    part_beside (b.hash (value b r registers ++ d)) registers (place b r) (place a q) a.size
    (⊎_elim (λ h. inl (omega (arith, place_end a q hq)))
    (λ h. inr (omega (arith, place_end b r hr, k.sized (value b r registers ++ d)))) n)

-- ---- reset

pub length_reset_first : (b : Bank) (n : ℕ) → length (reset_first b n) ≡ n * b.size
unfolding reset_first
length_reset_first b zero = omega arith
length_reset_first b (suc n) = length-append (reset_first b n) (replicate b.size (b.reset n)) ∙ (rw (length_reset_first b n, length-replicate, suc-mul n b.size))

-- the reset values of banks with nothing between them reach up to the end
pub length_reset_of : (n : ℕ) (bs : List Bank) → Tight n bs → 24 * n + length (reset_of bs) ≡ registers_length
unfolding reset_of
length_reset_of n [] t = omega arith
length_reset_of n (b ∷ bs) t =
    omega (arith, length-append (reset_first b 24) (reset_of bs), length_reset_first b 24, length_reset_of (b.from + b.size) bs t.1)

pub length_reset_all : length reset_all ≡ registers_length
unfolding reset_all
length_reset_all = omega (arith, length_reset_of 0 table tight_table)

-- the last of the first n + 1 registers, and any of the first n
reset_last : (b : Bank) (n : ℕ) (a c : List ℕ)
    → part (a ++ ((reset_first b n ++ replicate b.size (b.reset n)) ++ c)) (length a + n * b.size) b.size ≡ replicate b.size (b.reset n)
reset_last b n a c =
    let x : List ℕ = replicate b.size (b.reset n) in
    let s : a ++ ((reset_first b n ++ x) ++ c) ≡ (a ++ reset_first b n) ++ (x ++ c) = simp append_assoc in
    let l : length (a ++ reset_first b n) ≡ length a + n * b.size = length-append a (reset_first b n) ∙ ap (λ (k : ℕ). length a + k) (length_reset_first b n) in
    let m : length x ≡ b.size = length-replicate b.size (b.reset n) in
    rw s (rw (l, m) at (part_here (a ++ reset_first b n) x c))

reset_first_lem : (b : Bank) (n r : ℕ) (a c : List ℕ) → r < n → part (a ++ (reset_first b n ++ c)) (length a + r * b.size) b.size ≡ replicate b.size (b.reset r)
unfolding reset_first
reset_first_lem b zero r a c h = absurd (omega arith)
reset_first_lem b (suc n) r a c h =
    ⊎_elim
    (λ e.
    let q : r ≡ n = omega arith in
    rw q (reset_last b n a c))
    (λ k. rw (append_assoc (reset_first b n)) (reset_first_lem b n r a (replicate b.size (b.reset n) ++ c) (omega arith)))
    (eq-or-lt_of_le h)

-- 01: "Reset: all bits one in 17 to 22, all zero elsewhere": each register of a bank holds the bank's reset value
pub record Reset (registers : List ℕ) (b : Bank) : Type 0 where
  pub each : (r : ℕ) → r ≤ 23 → value b r registers ≡ replicate b.size (b.reset r)

pub reset_values_of : (n : ℕ) (bs : List Bank) (a : List ℕ) → length a ≡ 24 * n → Tight n bs → All (Reset (a ++ reset_of bs)) bs
unfolding reset_of
reset_values_of n [] a e t = tt
reset_values_of n (b ∷ bs) a e t =
    let f : length a ≡ 24 * b.from = omega arith in
    let l : length (a ++ reset_first b 24) ≡ 24 * (b.from + b.size) = omega (arith, length-append a (reset_first b 24), length_reset_first b 24) in (
      record { each = λ r h. rw (← f) (reset_first_lem b 24 r a (reset_of bs) (omega arith)) },
      rw append_assoc at (reset_values_of (b.from + b.size) bs (a ++ reset_first b 24) l t.1),
    )

pub reset_values : All (Reset reset_all) table
unfolding reset_all
reset_values = reset_values_of 0 table [] refl tight_table

-- ---- the active banks

pub banks_1 : banks 1 ≡ sha1_bank ∷ []
unfolding banks table
banks_1 = refl

pub banks_2 : banks 2 ≡ sha256_bank ∷ []
unfolding banks table
banks_2 = refl

pub banks_3 : banks 3 ≡ sha1_bank ∷ (sha256_bank ∷ [])
unfolding banks table
banks_3 = refl

-- how few active banks there are
pub few_of : (bitmap : ℕ) (bs : List Bank) → length (active_of bitmap bs) ≤ length bs
few_of bitmap [] = omega arith
few_of bitmap (b ∷ bs) = kept (active bitmap b) (few_of bitmap bs)
  where
    kept : (t : Bool) → length (active_of bitmap bs) ≤ length bs → length (keep t b (active_of bitmap bs)) ≤ length (b ∷ bs)
    kept true h = omega arith
    kept false h = omega arith

pub few_banks : (bitmap : ℕ) → length (banks bitmap) ≤ rows
unfolding banks table
few_banks bitmap = few_of bitmap table

-- a bitmap of the table's banks
pub valid_cases : (bitmap : ℕ) → valid bitmap ≡ true → (bitmap ≡ 1) ⊎ ((bitmap ≡ 2) ⊎ (bitmap ≡ 3))
unfolding valid
valid_cases bitmap h =
    let b = both (leb 1 bitmap) (leb bitmap 3) h in
    let l : 1 ≤ bitmap = leb-true _ _ b.0 in
    let u : bitmap ≤ 3 = leb-true _ _ b.1 in
    go (eqb bitmap 1) (eqb bitmap 2) refl refl l u
  where
    go : (a c : Bool) → eqb bitmap 1 ≡ a → eqb bitmap 2 ≡ c → 1 ≤ bitmap → bitmap ≤ 3 → (bitmap ≡ 1) ⊎ ((bitmap ≡ 2) ⊎ (bitmap ≡ 3))
    go true c e f l u = inl (eqb-true _ _ e)
    go false true e f l u = inr (inl (eqb-true _ _ f))
    go false false e f l u =
        let n1 : bitmap ≡ 1 → ⊥ = eqb-false _ _ e in
        let n2 : bitmap ≡ 2 → ⊥ = eqb-false _ _ f in
        inr (inr (omega (arith, n1, n2)))
