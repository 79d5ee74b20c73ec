-- What is left of each loop over banks, and where a bank's registers and its digest stand. Assumes nothing.
use Rattle.std.proofs.Common.{ℕ, suc, ◌+◌, ◌-◌, ◌*◌, ◌≤◌, ◌<◌, ◌≡◌, refl, sym, ap, ◌∙◌, List, ◌∷◌, ◌++◌, length, take, drop, replicate, map, arith, add-one, get_or, length-take, length-drop}
use Rattle.std.proofs.Math.Nat.{suc-mul, mul-le-mul_right}
use Rattle.std.proofs.Math.ListN.{drop_of_length-le}
use Rattle.std.proofs.Math.Seq.{drop-cons}
use Rattle.std.proofs.lemmas.List.Edits.{sets}
use Rattle.std.proofs.lemmas.List.{length-replicate}
use Rattle.wire.specs.Bytes.{part, Put, Room}
use Rattle.wire.proofs.Laws.{then, put_length, put_all, sets_append, lent_part, room_first, room_then}
use Rattle.bank.specs.declared.Bank.{Bank as Name}
use Rattle.bank.specs.declared.Bank.TheVariants.{Sha1, Sha256}
use Rattle.bank.specs.Bank.{Bank, table}
use Rattle.bank.specs.Named.{row}
use Rattle.bank.specs.Registers.{digests_length, registers_length, extend, extend_all, reset_first, reset_of, reset_all, hash_all}
use Rattle.bank.proofs.Laws.{All, Lawful, Within, every_table, laid_within, laid_table, place_end, length_hash_all, length_extend_all, length_reset_first, length_reset_all}

-- ---- a bank of the table, by its name

-- what holds of each bank of the table holds of it
pub all_row : (P : Bank → Type 0) (n : Name) → All P table → P (row n)
unfolding table
all_row P Sha1 h = h.0
all_row P Sha256 h = h.1.0

pub lawful_row : (n : Name) → Lawful (row n)
lawful_row n = all_row Lawful n every_table

pub bit_row : (n : Name) → 0 < (row n).bit
bit_row n = (lawful_row n).bit1

pub within_row : (n : Name) → (row n).from + (row n).size ≤ digests_length
within_row n = all_row Within n (laid_within 0 table laid_table)

pub size_row : (n : Name) → (row n).size ≤ digests_length
size_row n = omega (arith, within_row n)

-- its digest has room in its place
pub room_digest : (n : Name) (at : ℕ) (d x m : List ℕ) → length d ≡ digests_length → at ≡ (row n).from → x ≡ (row n).hash m → Room d at x
room_digest n at d x m l f e = record { fits = omega (arith, within_row n, ap length e, (lawful_row n).sized m) }

-- the banks from place i on
pub banks_on : (ns : List Name) (i : ℕ) → i < length ns → drop i ns ≡ get_or ns i Sha1 ∷ drop (i + 1) ns
banks_on ns i h = rw (add-one i) (drop-cons ns i Sha1 h)

-- ---- the lengths stay

pub hash_length : (bs cs : List Bank) (message d d' : List ℕ) → hash_all bs message d ≡ hash_all cs message d' → length d ≡ length d'
hash_length bs cs message d d' q = sym (length_hash_all bs message d) ∙ ap length q ∙ length_hash_all cs message d'

pub extend_length : (bs cs : List Bank) (r : ℕ) (ds es : List (List ℕ)) (s s' : List ℕ) → extend_all bs r ds s ≡ extend_all cs r es s' → length s ≡ length s'
extend_length bs cs r ds es s s' q = sym (length_extend_all bs r ds s) ∙ ap length q ∙ length_extend_all cs r es s'

-- ---- the reset values

-- one register more of those of a bank
module _ (b : Bank) (r n v : ℕ) (s : n ≡ b.size) where
  pub room_register : {d d' : List ℕ} {at p : ℕ} → r < 24 → Room d at (reset_first b 24) → Put d at (reset_first b r) p d' → Room d' p (replicate n v)
  room_register h k w =
      let m : suc r * b.size ≤ 24 * b.size = mul-le-mul_right b.size h in
      record { fits = omega (arith, suc-mul r b.size, length_reset_first b r, length_reset_first b 24, length-replicate n v, put_length w) }

  pub put_register : {d d' d'' : List ℕ} {at p p' : ℕ} → v ≡ b.reset r → Put d at (reset_first b r) p d' → Put d' p (replicate n v) p' d''
      → Put d at (reset_first b (r + 1)) p' d''
  unfolding reset_first
  put_register e w u = rw (add-one r) (then w (rw (s, e) at u))

-- the registers of the first of some banks, and of the others
module _ {bs cs : List Name} {n : Name} (e : bs ≡ n ∷ cs) where
  pub room_bank : {d : List ℕ} {p : ℕ} → Room d p (reset_of (map row bs)) → Room d p (reset_first (row n) 24)
  unfolding reset_of
  room_bank h = room_first _ _ (rw e at h)

  pub room_on : {d d' : List ℕ} {p p' : ℕ} → Room d p (reset_of (map row bs)) → Put d p (reset_first (row n) 24) p' d' → Room d' p' (reset_of (map row cs))
  unfolding reset_of
  room_on h w = room_then _ _ (rw e at h) w

  pub put_on : {d d' x : List ℕ} {p p' : ℕ} → Put d p (reset_first (row n) 24) p' d' → sets d p (reset_of (map row bs)) ≡ x → sets d' p' (reset_of (map row cs)) ≡ x
  unfolding reset_of
  put_on {d = d} {p = p} w q = rw (w.bytes, w.next) (sym (sets_append (reset_first (row n) 24) d (reset_of (map row cs)) p) ∙ (rw e at q))

-- all of them, written over as many bytes
pub put_table : (d : List ℕ) → length d ≡ registers_length → sets d 0 reset_all ≡ reset_all
put_table d l = put_all {d = d} {bs = reset_all} {d' = sets d 0 reset_all} {r = 0 + length reset_all} (record { next = refl; bytes = refl }) (length_reset_all ∙ sym l)

-- and nothing is left behind the last
pub put_end : (ns : List Name) (i p : ℕ) {d x : List ℕ} → length ns ≤ i → sets d p (reset_of (map row (drop i ns))) ≡ x → d ≡ x
unfolding reset_of
put_end ns i p h q = rw (drop_of_length-le ns h) at q

-- ---- `&mut registers[a..e]` for register r of a bank, whose digest has n bytes and starts at f

pub record Placed (k : Name) (r q n f : ℕ) : Type 0 where
  pub number : q ≡ r
  pub low : q ≤ 23
  pub size : n ≡ (row k).size
  pub from : f ≡ (row k).from

module _ {k : Name} {r q n f : ℕ} (p : Placed k r q n f) where
  pub register_end : 24 * f + q * n + n ≤ registers_length
  register_end = rw (p.size, p.from) (omega (arith, place_end (row k) q p.low, within_row k))

  pub length_register : (registers : List ℕ) → length registers ≡ registers_length
      → length (part registers (24 * f + q * n) (24 * f + q * n + n - (24 * f + q * n))) ≡ (row k).size
  length_register registers l =
      let e : 24 * f + q * n + n - (24 * f + q * n) ≡ n = omega arith in
      rw e (simp (length-take, length-drop) (omega (arith, register_end, p.size)))

  pub extend_register : (registers d m : List ℕ) → length registers ≡ registers_length → m ≡ (row k).hash (part registers (24 * f + q * n) (24 * f + q * n + n - (24 * f + q * n)) ++ d)
      → take (24 * f + q * n) registers ++ (m ++ drop (24 * f + q * n + n - (24 * f + q * n)) (drop (24 * f + q * n) registers)) ≡ extend (row k) r d registers
  unfolding extend
  extend_register registers d m l e =
      let a : ℕ = 24 * f + q * n in
      let j : a + n - a ≡ n = omega arith in
      lent_part registers m a (a + n) (omega arith) (omega (arith, register_end)) (ap length e ∙ (lawful_row k).sized (part registers a (a + n - a) ++ d) ∙ (rw j (sym p.size)))
      ∙ (rw (e, j, p.size, p.from, p.number))
