-- Four rounds, a block's words worked through, and the digest's bytes. Assumes nothing.
use Rattle.std.proofs.Common.{◌≡◌, ℕ, ◌+◌, List, ◌++◌, append_assoc, length, take, get_or, length-append, sym, ◌∙◌, arith}
use Rattle.std.proofs.lemmas.List.Edits.{sets}
use Rattle.wire.specs.Bytes.{Put, Room}
use Rattle.wire.proofs.Laws.{put_length, put_all, then}
use Rattle.padding.specs.Words.{words, bytes}
use Rattle.padding.specs.Sha2.{Eight, expanded, rounds, compress, output}
use Rattle.padding.proofs.Laws.{length_bytes, length_words, take_sets}
use Rattle.sha256.specs.Sha256.{P}

-- four rounds g, each with its constant and its word
pub four : (g : ℕ → ℕ → Eight → Eight) (K ws : List ℕ) (t : ℕ) {s a b c d : Eight} → a ≡ g (get_or K t 0) (get_or ws t 0) s
    → b ≡ g (get_or K (t + 1) 0) (get_or ws (t + 1) 0) a → c ≡ g (get_or K (t + 2) 0) (get_or ws (t + 2) 0) b → d ≡ g (get_or K (t + 3) 0) (get_or ws (t + 3) 0) c
    → d ≡ g (get_or K (t + 3) 0) (get_or ws (t + 3) 0) (g (get_or K (t + 2) 0) (get_or ws (t + 2) 0) (g (get_or K (t + 1) 0) (get_or ws (t + 1) 0) (g (get_or K t 0) (get_or ws t 0) s)))
four g K ws t e₁ e₂ e₃ e₄ = e₄ ∙ (rw (e₃, e₂, e₁))

-- a block's words loaded, expanded and worked through
pub compressed : (w w₁ w₂ m : List ℕ) (s r : Eight) → length w ≡ 64 → w₁ ≡ sets w 0 (words 4 16 m) → w₂ ≡ expanded P (take 16 w₁) → r ≡ rounds P w₂ s → r ≡ compress P s m
unfolding compress
compressed w w₁ w₂ m s r l e₁ e₂ e₃ =
    let t : take 16 (sets w 0 (words 4 16 m)) ≡ words 4 16 m = take_sets 16 w (words 4 16 m) (length_words 4 16 m) (omega arith) in
    e₃ ∙ (rw (e₂, e₁, t))

-- the output as two runs of four words
pub output_halves : (s : Eight) → output P s
    ≡ (bytes 4 s.a ++ (bytes 4 s.b ++ (bytes 4 s.c ++ bytes 4 s.d))) ++ (bytes 4 s.e ++ (bytes 4 s.f ++ (bytes 4 s.g ++ bytes 4 s.h)))
unfolding output
output_halves s = sym (simp append_assoc)

pub length_output : (s : Eight) → length (output P s) ≡ 32
unfolding output
length_output s = simp (length-append, length_bytes)

-- 32 bytes have room for any four words, and behind them for any other four
module _ {d : List ℕ} (l : length d ≡ 32) (x y z u : ℕ) where
  pub room_four : Room d 0 (bytes 4 x ++ (bytes 4 y ++ (bytes 4 z ++ bytes 4 u)))
  room_four = record { fits = simp (length-append, length_bytes) (omega arith) }

  pub room_others : (e f g h : ℕ) {d' : List ℕ} {j : ℕ} → Put d 0 (bytes 4 x ++ (bytes 4 y ++ (bytes 4 z ++ bytes 4 u))) j d'
      → Room d' j (bytes 4 e ++ (bytes 4 f ++ (bytes 4 g ++ bytes 4 h)))
  room_others e f g h p =
      record { fits = simp (length-append, length_bytes) (omega (arith, put_length p, simp (length-append, length_bytes) at p.next)) }

-- a hash value's eight words cover 32 bytes
pub put_output : (s : Eight) {d d₁ d₂ : List ℕ} {j k : ℕ} → length d ≡ 32 → Put d 0 (bytes 4 s.a ++ (bytes 4 s.b ++ (bytes 4 s.c ++ bytes 4 s.d))) j d₁
    → Put d₁ j (bytes 4 s.e ++ (bytes 4 s.f ++ (bytes 4 s.g ++ bytes 4 s.h))) k d₂ → d₂ ≡ output P s
put_output s l p q = put_all (rw (← output_halves s) at (then p q)) (length_output s ∙ sym l)
