-- The rounds in their quarters, the schedule, the digest's bytes, and the block of a register and a digest. Assumes nothing.
use Rattle.std.proofs.Common.{◌≡◌, refl, sym, ap, ◌∙◌, List, ◌++◌, append_assoc, ℕ, ◌+◌, ◌-◌, ◌*◌, ◌/◌, ◌%◌, ◌^◌, ◌<◌, ◌≤◌, arith, lt-ltb, le-ltb, length, take, drop, get_or, length-append, get_or-take, w32}
use Rattle.std.proofs.lemmas.List.Edits.{sets}
use Rattle.std.proofs.lemmas.Nat.{or_comm}
use Rattle.std.specs.Int.{rotate_left}
use Rattle.wire.specs.Bytes.{Put, Room}
use Rattle.wire.proofs.Laws.{put_length, put_all, then}
use Rattle.padding.specs.Words.{rotl, ch, maj, parity, run, steps, words, bytes}
use Rattle.padding.specs.Padding.{blocks, padding, absorbed, finished}
use Rattle.padding.proofs.Laws.{steps_more, steps_same, run_steps, take_sets, length_words, length_bytes, hash_one, in_parts, lent_rest}
use Rattle.sha1_hash.specs.Sha1.{next, step, step_of, turn, f, K, expanded, rounds, compress, output, H₀, sha1}
use Rattle.sha1_hash.specs.declared.State.{State}

-- ---- the rounds

-- std's rotation to the left is the standard's
pub rotated : (n x : ℕ) → 0 < n → n < 32 → rotate_left w32 x n ≡ rotl 32 n x
rotated n x g h =
    let a : n % 32 ≡ n = omega arith in
    let b : (32 - n) % 32 ≡ 32 - n = omega arith in
    let d : 32 - (32 - n) ≡ n = omega arith in
    rw (a, b, d) (or_comm (x * 2 ^ n % 2 ^ 32) (x / 2 ^ (32 - n)))

-- a turn of a loop over rounds whose function is g and whose constant is k
pub one_turn : (g : ℕ → ℕ → ℕ → ℕ) (k : ℕ) (ws : List ℕ) (t i : ℕ) (s v r : State) (x : ℕ) → r ≡ turn x k (get_or ws (t + i) 0) v → x ≡ g v.b v.c v.d
    → v ≡ steps (step_of g k ws) t i s → r ≡ steps (step_of g k ws) t (i + 1) s
one_turn g k ws t i s v r x e h p = e ∙ ap (λ (y : ℕ). turn y k (get_or ws (t + i) 0) v) h ∙ steps_more (step_of g k ws) t i s p

-- 4.1.1, 4.2.1: the function and the constant of each quarter
module _ (ws : List ℕ) (t : ℕ) (s : State) where
  first : t < 20 → step_of (ch 32) 0x5a827999 ws t s ≡ step ws t s
  unfolding f K
  first h = rw (lt-ltb t 20 h)

  second : 20 ≤ t → t < 40 → step_of parity 0x6ed9eba1 ws t s ≡ step ws t s
  unfolding f K
  second g h = rw (le-ltb t 20 g, lt-ltb t 40 h)

  third : 40 ≤ t → t < 60 → step_of maj 0x8f1bbcdc ws t s ≡ step ws t s
  unfolding f K
  third g h =
      let g₁ : 20 ≤ t = omega arith in
      rw (le-ltb t 20 g₁, le-ltb t 40 g, lt-ltb t 60 h)

  fourth : 60 ≤ t → step_of parity 0xca62c1d6 ws t s ≡ step ws t s
  unfolding f K
  fourth g =
      let g₁ : 20 ≤ t = omega arith in
      let g₂ : 40 ≤ t = omega arith in
      rw (le-ltb t 20 g₁, le-ltb t 40 g₂, le-ltb t 60 g)

-- the four quarters are the eighty rounds
pub quarters : (ws : List ℕ) (s a b c d : State) → a ≡ steps (step_of (ch 32) 0x5a827999 ws) 0 20 s → b ≡ steps (step_of parity 0x6ed9eba1 ws) 20 20 a
    → c ≡ steps (step_of maj 0x8f1bbcdc ws) 40 20 b → d ≡ steps (step_of parity 0xca62c1d6 ws) 60 20 c → d ≡ run (step ws) 80 s
unfolding run
quarters ws s a b c d ha hb hc hd =
    let g : ℕ → State → State = step ws in
    let ra : a ≡ run g 20 s = ha ∙ steps_same _ g 0 20 s (λ k l h x. first ws k x h) ∙ run_steps g 0 20 s refl in
    let rb : b ≡ run g 40 s = hb ∙ steps_same _ g 20 20 a (λ k l h x. second ws k x l h) ∙ run_steps g 20 20 s ra in
    let rc : c ≡ run g 60 s = hc ∙ steps_same _ g 40 20 b (λ k l h x. third ws k x l h) ∙ run_steps g 40 20 s rb in
    hd ∙ steps_same _ g 60 20 c (λ k l h x. fourth ws k x l) ∙ run_steps g 60 20 s rc

-- ---- a block

-- a word of the schedule looks only at the words before it
pub next_take : (t : ℕ) (w : List ℕ) → next t w ≡ next t (take (t + 16) w)
next_take t w =
    rw (get_or-take (t + 16) w (t + 13) 0 (omega arith), get_or-take (t + 16) w (t + 8) 0 (omega arith), get_or-take (t + 16) w (t + 2) 0 (omega arith), get_or-take (t + 16) w t 0 (omega arith))

-- a block's words loaded, expanded and worked through
pub compressed : (w w₁ w₂ m : List ℕ) (s r : State) → length w ≡ 80 → w₁ ≡ sets w 0 (words 4 16 m) → w₂ ≡ expanded (take 16 w₁) → r ≡ rounds w₂ s → r ≡ compress s m
unfolding compress
compressed w w₁ w₂ m s r l e₁ e₂ e₃ =
    let t : take 16 (sets w 0 (words 4 16 m)) ≡ words 4 16 m = take_sets 16 w (words 4 16 m) (length_words 4 16 m) (omega arith) in
    e₃ ∙ (rw (e₂, e₁, t))

-- ---- the digest

-- the last word apart
pub output_is : (s : State) → output s ≡ (bytes 4 s.a ++ (bytes 4 s.b ++ (bytes 4 s.c ++ bytes 4 s.d))) ++ bytes 4 s.e
unfolding output
output_is s = sym (simp append_assoc)

pub length_output : (s : State) → length (output s) ≡ 20
unfolding output
length_output s = simp (length-append, length_bytes)

-- 20 bytes are room for a hash value
pub room_output : (s : State) (d : List ℕ) → length d ≡ 20 → Room d 0 (output s)
room_output s d l = record { fits = omega (arith, length_output s) }

-- 20 bytes have room for any four words, and behind them for any fifth
module _ {d : List ℕ} (l : length d ≡ 20) (x y z u : ℕ) where
  pub room_four : Room d 0 (bytes 4 x ++ (bytes 4 y ++ (bytes 4 z ++ bytes 4 u)))
  room_four = record { fits = simp (length-append, length_bytes) (omega arith) }

  pub room_fifth : (v : ℕ) {d' : List ℕ} {j : ℕ} → Put d 0 (bytes 4 x ++ (bytes 4 y ++ (bytes 4 z ++ bytes 4 u))) j d' → Room d' j (bytes 4 v)
  room_fifth v p = record { fits = simp length_bytes (omega (arith, put_length p, simp (length-append, length_bytes) at p.next)) }

-- a hash value's five words cover 20 bytes
pub put_output : (s : State) {d d₁ d₂ : List ℕ} {j k : ℕ} → length d ≡ 20 → Put d 0 (bytes 4 s.a ++ (bytes 4 s.b ++ (bytes 4 s.c ++ bytes 4 s.d))) j d₁
    → Put d₁ j (bytes 4 s.e) k d₂ → d₂ ≡ output s
put_output s l p q = put_all (rw (← output_is s) at (then p q)) (length_output s ∙ sym l)

-- 5.1: 40 bytes and their padding are one block
pub forty : (m : List ℕ) (s : State) → length m ≡ 40 → s ≡ compress H₀ (m ++ padding 64 8 40) → output s ≡ sha1 m
unfolding sha1 blocks
forty m s l e =
    ap output (e ∙ ap (λ (n : ℕ). compress H₀ (m ++ padding 64 8 n)) (sym l) ∙ sym (hash_one compress 64 8 m H₀ (omega arith) (rw l)))

-- whole blocks, and then what is left
pub in_two : (m r : List ℕ) (s v : State) → s ≡ H₀ → v ≡ absorbed compress 64 m s
    → r ≡ output (finished compress 64 8 (length m) (take (length m - length m / 64 * 64) (drop (length m / 64 * 64) m)) v) → r ≡ sha1 m
unfolding sha1
in_two m r s v p q e = e ∙ (rw (lent_rest (length m / 64 * 64) m, q, p)) ∙ ap output (in_parts compress 64 8 m H₀ (omega arith))
