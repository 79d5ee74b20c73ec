-- The laws of words, of the chain over blocks and of a padded message. Assumes nothing.
use Rattle.std.proofs.Common.{◌≡◌, ℕ, zero, suc, ◌+◌, ◌-◌, ◌*◌, ◌/◌, ◌%◌, ◌^◌, ◌<◌, ◌≤◌, List, [], ◌∷◌, ◌++◌, length, take, drop, set, replicate, sym, refl, ap, ◌∙◌, ap₂, append_assoc, append-nil, le_of_eq, add-zero, add_assoc, add-suc, suc-mul, mul_comm, add-mul, one-mul, pow-suc, div-add-mod', zero-mul, div-mul-le_self, div-one, mul-div_cancel, add-one, arith, length-append, length-drop, length-set, take-append-drop, length-take-le, take_all, get_or-take, take-suc-set, take_at, get_or-append-add}
use Rattle.std.proofs.Math.Nat.{lt-div-mul-add, mul-add-div_right, div-div-eq-div-mul}
use Rattle.std.proofs.Math.ListN.{get_or-append}
use Rattle.std.proofs.Math.Seq.{sets, drop-append-add, sets-eq}
use Rattle.std.proofs.lemmas.List.{drop-append-le, length-replicate, set_comm, take-append-le, take_more_set}
use Rattle.wire.specs.Bytes.{Put, Room}
use Rattle.wire.proofs.Laws.{lent_part, sets_append, part_put}
use Rattle.padding.specs.Words.{run, steps, grow, words, number, bytes}
use Rattle.padding.specs.Padding.{blocks, zeros, ending, padding, chain, absorbed, finished, hash}
use Rattle.padding.specs.Sha2.{Member, next}

-- ---- steps

-- one step more
pub run_more : {S : Type 0} (f : ℕ → S → S) (t : ℕ) (s₀ : S) {s : S} → s ≡ run f t s₀ → f t s ≡ run f (t + 1) s₀
unfolding run
run_more f t s₀ e = rw (add-one t) (ap (f t) e)

-- four steps more
pub run_four : {S : Type 0} (f : ℕ → S → S) (t : ℕ) (s₀ : S) {s : S} → s ≡ run f t s₀ → f (t + 3) (f (t + 2) (f (t + 1) (f t s))) ≡ run f (t + 4) s₀
run_four {S} f t s₀ {s} e =
    let one : f t s ≡ run f (t + 1) s₀ = run_more f t s₀ e in
    let two : f (t + 1) (f t s) ≡ run f (t + 1 + 1) s₀ = run_more f (t + 1) s₀ one in
    let e₂ : t + 1 + 1 ≡ t + 2 = omega arith in
    let e₃ : t + 2 + 1 ≡ t + 3 = omega arith in
    let e₄ : t + 3 + 1 ≡ t + 4 = omega arith in
    let three : f (t + 2) (f (t + 1) (f t s)) ≡ run f (t + 2 + 1) s₀ = run_more f (t + 2) s₀ (rw e₂ at two) in
    rw e₄ at (run_more f (t + 3) s₀ (rw e₃ at three))

-- one step more, counted from u
pub steps_more : {S : Type 0} (f : ℕ → S → S) (u n : ℕ) (s₀ : S) {s : S} → s ≡ steps f u n s₀ → f (u + n) s ≡ steps f u (n + 1) s₀
unfolding steps
steps_more f u n s₀ e = rw (add-one n) (ap (f (u + n)) e)

-- steps that go on where others ended
pub run_steps : {S : Type 0} (f : ℕ → S → S) (t n : ℕ) (s₀ : S) {s : S} → s ≡ run f t s₀ → steps f t n s ≡ run f (t + n) s₀
unfolding run steps
run_steps f t zero s₀ e = e ∙ (rw (add-zero t))
run_steps f t (suc n) s₀ e = ap (f (t + n)) (run_steps f t n s₀ e) ∙ (rw (add-suc t n))

-- two kinds of step that agree where they are counted
pub steps_same : {S : Type 0} (f g : ℕ → S → S) (t n : ℕ) (s : S) → ((k : ℕ) → t ≤ k → k < t + n → (x : S) → f k x ≡ g k x) → steps f t n s ≡ steps g t n s
unfolding steps
steps_same f g t zero s h = refl
steps_same f g t (suc n) s h =
    h (t + n) (omega arith) (omega arith) (steps f t n s)
    ∙ ap (g (t + n)) (steps_same f g t n s (λ k a b x. h k a (omega arith) x))

-- one word more in an array w that is filled from the front and has t + n words
pub grow_more : (f : ℕ → List ℕ → ℕ) (n t : ℕ) (ws w : List ℕ) {x : ℕ} → t + n < length w → take (t + n) w ≡ grow f t ws → x ≡ f t (take (t + n) w)
    → take (t + 1 + n) (set w (t + n) x) ≡ grow f (t + 1) ws
unfolding run
grow_more f n t ws w {x} h e p =
    let k : t + 1 + n ≡ suc (t + n) = omega arith in
    ap (λ (k : ℕ). take k (set w (t + n) x)) k ∙ take-suc-set w (t + n) x h ∙ (rw (p, e, add-one t))

-- an array of N words whose first t + 16 are the schedule so far that starts with ws
pub record Grown (f : ℕ → List ℕ → ℕ) (N t : ℕ) (ws w : List ℕ) : Type 0 where
  pub full : length w ≡ N
  pub words : take (t + 16) w ≡ grow f t ws

-- one word more of the schedule, where f looks only at the words before it
pub grown_more : (f : ℕ → List ℕ → ℕ) (N t n : ℕ) (ws w w' : List ℕ) → n ≡ t + 1 → t + 16 < N → f t w ≡ f t (take (t + 16) w)
    → w' ≡ set w (t + 16) (f t w) → Grown f N t ws w → Grown f N n ws w'
grown_more f N t n ws w w' k h b e g =
    let l : t + 16 < length w = omega (arith, g.full) in
    record {
      full = ap length e ∙ length-set w (t + 16) (f t w) ∙ g.full;
      words = rw (k, e) (grow_more f 16 t ws w l g.words b);
    }

-- four words more of the schedule, where f looks only at the words before its own
pub grown_four : (f : ℕ → List ℕ → ℕ) (N t n : ℕ) (ws w w₁ w₂ w₃ w₄ : List ℕ) → ((t : ℕ) (w : List ℕ) → f t w ≡ f t (take (t + 16) w)) → n ≡ t + 4 → t + 19 < N
    → w₁ ≡ set w (t + 16) (f t w) → w₂ ≡ set w₁ (t + 1 + 16) (f (t + 1) w₁) → w₃ ≡ set w₂ (t + 2 + 16) (f (t + 2) w₂) → w₄ ≡ set w₃ (t + 3 + 16) (f (t + 3) w₃)
    → Grown f N t ws w → Grown f N n ws w₄
grown_four f N t n ws w w₁ w₂ w₃ w₄ b k h e₁ e₂ e₃ e₄ g =
    grown_more f N (t + 3) n ws w₃ w₄ (omega arith) (omega arith) (b (t + 3) w₃) e₄
    (grown_more f N (t + 2) (t + 3) ws w₂ w₃ (omega arith) (omega arith) (b (t + 2) w₂) e₃
    (grown_more f N (t + 1) (t + 2) ws w₁ w₂ (omega arith) (omega arith) (b (t + 1) w₁) e₂
    (grown_more f N t (t + 1) ws w w₁ refl (omega arith) (b t w) e₁ g)))

-- the whole array, once every word stands
pub grown_all : (f : ℕ → List ℕ → ℕ) (N t : ℕ) (ws w : List ℕ) → N ≡ t + 16 → Grown f N t ws w → w ≡ grow f t ws
grown_all f N t ws w k g = sym (take_all (t + 16) w (omega (arith, g.full))) ∙ g.words

-- ---- bytes and words

pub length_bytes : (n x : ℕ) → length (bytes n x) ≡ n
unfolding bytes
length_bytes zero x = refl
length_bytes (suc n) x = ap suc (length_bytes n x)

pub length_words : (b n : ℕ) (m : List ℕ) → length (words b n m) ≡ n
unfolding run
length_words b zero m = refl
length_words b (suc n) m = length-append (words b n m) (number b m (n * b) ∷ []) ∙ (rw (length_words b n m) (add-one n))

-- one word more of a block, written behind the first i
pub words_turn : (i : ℕ) (m ws : List ℕ) {x : ℕ} → i < length ws → take i ws ≡ words 4 i m → x ≡ number 4 m (i * 4)
    → take (i + 1) (set ws i x) ≡ words 4 (i + 1) m
unfolding run
words_turn i m ws {x} h e p = take_more_set ws i x h ∙ rw (e, p, add-one i)

-- the part of w from place at on, once all its n words stand
pub words_end : (w m ws : List ℕ) (at n i : ℕ) → at + n ≤ length w → length ws ≡ n → i ≡ n → take i ws ≡ words 4 i m
    → take at w ++ (ws ++ drop (at + n - at) (drop at w)) ≡ sets w at (words 4 n m)
words_end w m ws at n i h l k e =
    let all : ws ≡ words 4 n m = sym (take_all n ws (omega arith)) ∙ (rw k at e) in
    lent_part w ws at (at + n) (omega arith) h (omega arith) ∙ ap (sets w at) all

-- what a run of stores from the front on leaves there
pub take_sets : (n : ℕ) (w bs : List ℕ) → length bs ≡ n → n ≤ length w → take n (sets w 0 bs) ≡ bs
take_sets n w bs e h =
    let l : 0 + length bs ≤ length w = omega arith in
    rw (sets-eq bs w 0 l) (take_at bs (drop (0 + length bs) w) n e)

-- the number in the first of two runs of bytes, and in the second
pub number_front : (n i : ℕ) (x y : List ℕ) → i + n ≤ length x → number n (x ++ y) i ≡ number n x i
unfolding number
number_front zero i x y h = refl
number_front (suc n) i x y h =
    let k : i + n ≤ length x = omega arith in
    let l : i + n < length x = omega arith in
    rw (number_front n i x y k, get_or-append x y 0 (i + n) l)

pub number_back : (n i : ℕ) (x y : List ℕ) → number n (x ++ y) (length x + i) ≡ number n y i
unfolding number
number_back zero i x y = refl
number_back (suc n) i x y = rw (number_back n i x y, add_assoc (length x) i n, get_or-append-add x y (i + n) 0)

pub words_front : (b n : ℕ) (x y : List ℕ) → n * b ≤ length x → words b n (x ++ y) ≡ words b n x
unfolding run
words_front b zero x y h = refl
words_front b (suc n) x y h =
    let k : n * b + b ≤ length x = rw suc-mul at h in
    rw (words_front b n x y (omega arith), number_front b (n * b) x y k)

-- the words of two runs of bytes, the first of which has n whole words
pub words_append : (b n k : ℕ) (x y : List ℕ) → length x ≡ n * b → words b (n + k) (x ++ y) ≡ words b n x ++ words b k y
unfolding run
words_append b n zero x y e = rw (add-zero n, words_front b n x y (le_of_eq (sym e))) (sym (append-nil (words b n x)))
words_append b n (suc k) x y e =
    let j : (n + k) * b ≡ length x + k * b = add-mul n k b ∙ ap (λ (z : ℕ). z + k * b) (sym e) in
    rw (add-suc n k, words_append b n k x y e, j, number_back b (k * b) x y) (append_assoc (words b n x) (words b k y) (number b y (k * b) ∷ []))

-- the words of y, written right behind those of x, are those of the two
pub words_behind : (b k n at : ℕ) (x y w w₁ w₂ : List ℕ) → length x ≡ k * b → w₁ ≡ sets w at (words b k x) → w₂ ≡ sets w₁ (at + k) (words b n y)
    → w₂ ≡ sets w at (words b (k + n) (x ++ y))
words_behind b k n at x y w w₁ w₂ l e₁ e₂ =
    e₂ ∙ (rw (e₁, words_append b k n x y l, sets_append (words b k x) w (words b n y) at, length_words b k x))

-- a number's bytes, the lowest apart
pub bytes_snoc : (n x : ℕ) → bytes (suc n) x ≡ bytes n (x / 256) ++ (x % 256 ∷ [])
unfolding bytes
bytes_snoc zero x = rw div-one
bytes_snoc (suc n) x =
    let e : x / 256 ^ suc n ≡ x / 256 / 256 ^ n = ap (λ (k : ℕ). x / k) (pow-suc 256 n ∙ mul_comm (256 ^ n) 256) ∙ sym (div-div-eq-div-mul x 256 (256 ^ n)) in
    ap₂ (λ (b : ℕ) (bs : List ℕ). b % 256 ∷ bs) e (bytes_snoc n x)

-- a length of n bytes counted in bits: its lowest byte holds n % 32, the others n / 32
pub bits_snoc : (l n : ℕ) → bytes (suc l) (n * 8) ≡ bytes l (n / 32) ++ (n % 32 * 8 ∷ [])
bits_snoc l n =
    let e : n * 8 / 256 ≡ n / 32 = omega arith in
    let m : n * 8 % 256 ≡ n % 32 * 8 = omega arith in
    bytes_snoc l (n * 8) ∙ (rw (e, m))

pub bits_apart : (l n : ℕ) → 0 < l → bytes l (n * 8) ≡ bytes (l - 1) (n / 32) ++ replicate 1 (n % 32 * 8)
bits_apart l n h =
    let k : l ≡ suc (l - 1) = omega arith in
    ap (λ (j : ℕ). bytes j (n * 8)) k ∙ bits_snoc (l - 1) n

-- a store behind a run of stores may come first
pub sets_set : (xs d : List ℕ) (i j b : ℕ) → i + length xs ≤ j → sets (set d j b) i xs ≡ set (sets d i xs) j b
sets_set [] d i j b h = refl
sets_set (x ∷ xs) d i j b h =
    let n : i ≡ j → ⊥ = λ e. omega arith in
    let m : j ≡ i → ⊥ = λ e. omega arith in
    rw (set_comm d j i b x m) (sets_set xs (set d i x) (suc i) j b (omega arith))

-- a turn of the loop that writes a number's bytes from the last to the first, of which i are left
pub bytes_turn : (d : List ℕ) (at i v : ℕ) → 0 < i → sets (set d (at + (i - 1)) (v % 256)) at (bytes (i - 1) (v / 256)) ≡ sets d at (bytes i v)
bytes_turn d at i v h =
    let k : i ≡ suc (i - 1) = omega arith in
    let l : length (bytes (i - 1) (v / 256)) ≡ i - 1 = length_bytes (i - 1) (v / 256) in
    sets_set (bytes (i - 1) (v / 256)) d at (at + (i - 1)) (v % 256) (omega arith)
    ∙ sym (ap (λ (n : ℕ). sets d at (bytes n v)) k ∙ ap (sets d at) (bytes_snoc (i - 1) v) ∙ sets_append (bytes (i - 1) (v / 256)) d (v % 256 ∷ []) at ∙ (rw l))

-- ---- the chain

-- the blocks of the front alone
pub chain_front : {S : Type 0} (f : S → List ℕ → S) (B q : ℕ) (x y : List ℕ) (s : S) → q * B ≤ length x → chain f B q (x ++ y) s ≡ chain f B q x s
unfolding run
chain_front f B zero x y s h = refl
chain_front f B (suc q) x y s h =
    let k : q * B + B ≤ length x = rw suc-mul at h in
    let k₁ : q * B ≤ length x = omega arith in
    let k₂ : B ≤ length (drop (q * B) x) = simp length-drop (omega arith) in
    rw (drop-append-le (q * B) x y k₁, take-append-le B (drop (q * B) x) y k₂, chain_front f B q x y s k₁)

-- the blocks of the front, then those of the rest
pub chain_append : {S : Type 0} (f : S → List ℕ → S) (B q r : ℕ) (x y : List ℕ) (s : S) → length x ≡ q * B
    → chain f B (q + r) (x ++ y) s ≡ chain f B r y (chain f B q x s)
unfolding run
chain_append f B q zero x y s e = rw (add-zero q) (chain_front f B q x y s (le_of_eq (sym e)))
chain_append f B q (suc r) x y s e =
    let d : drop ((q + r) * B) (x ++ y) ≡ drop (r * B) y = rw (add-mul q r B, ← e) (drop-append-add x y (r * B)) in
    rw (add-suc q r, d, chain_append f B q r x y s e)

-- q whole blocks of a message, and then what is left with whatever follows
pub chain_split : {S : Type 0} (f : S → List ℕ → S) (B q r : ℕ) (m p : List ℕ) (s : S) → q * B ≤ length m
    → chain f B (q + r) (m ++ p) s ≡ chain f B r (drop (q * B) m ++ p) (chain f B q m s)
chain_split f B q r m p s h =
    let l : length (take (q * B) m) ≡ q * B = length-take-le (q * B) m h in
    let e : take (q * B) m ++ (drop (q * B) m ++ p) ≡ m ++ p = sym (append_assoc (take (q * B) m) (drop (q * B) m) p) ∙ ap (λ (z : List ℕ). z ++ p) (take-append-drop (q * B) m) in
    let g : chain f B q (take (q * B) m) s ≡ chain f B q m s = sym (chain_front f B q (take (q * B) m) (drop (q * B) m) s (le_of_eq (sym l))) ∙ ap (λ (z : List ℕ). chain f B q z s) (take-append-drop (q * B) m) in
    ap (λ (z : List ℕ). chain f B (q + r) z s) (sym e) ∙ chain_append f B q r (take (q * B) m) (drop (q * B) m ++ p) s l
    ∙ ap (chain f B r (drop (q * B) m ++ p)) g

-- ---- padding

pub length_ending : (z L n : ℕ) → length (ending z L n) ≡ 1 + z + L
unfolding ending
length_ending z L n =
    let e : length (replicate z 0 ++ bytes L (n * 8)) ≡ z + L = simp (length-append, length-replicate, length_bytes) in
    ap suc e ∙ omega arith

pub length_padding : (B L n : ℕ) → length (padding B L n) ≡ 1 + zeros B L n + L
unfolding padding
length_padding B L n = length_ending (zeros B L n) L n

-- 5.1: the padded message is a whole number of blocks
pub whole : (B L n : ℕ) → 0 < B → n + (1 + zeros B L n + L) ≡ blocks B L n * B
unfolding blocks zeros
whole B L n h =
    let k : n + L < (n + L) / B * B + B = lt-div-mul-add h in
    rw (add-mul ((n + L) / B) 1 B, one-mul B) (omega arith)

pub length_padded : (B L : ℕ) (m : List ℕ) → 0 < B → length (m ++ padding B L (length m)) ≡ blocks B L (length m) * B
length_padded B L m h = length-append m (padding B L (length m)) ∙ (rw (length_padding B L (length m)) (whole B L (length m) h))

-- q blocks more in the message are q blocks more in the padded one
pub blocks_more : (B L q r : ℕ) → 0 < B → blocks B L (q * B + r) ≡ q + blocks B L r
unfolding blocks
blocks_more B L q r h = rw (add_assoc (q * B) r L, mul-add-div_right h q (r + L)) (omega arith)

-- and no other zero bytes
pub zeros_more : (B L q r : ℕ) → 0 < B → zeros B L (q * B + r) ≡ zeros B L r
unfolding zeros
zeros_more B L q r h = rw (blocks_more B L q r h, add-mul q (blocks B L r) B) (omega arith)

-- what is left of a message, padded, is a whole number of blocks
pub length_rest : (B L q : ℕ) (rest : List ℕ) → 0 < B → length (rest ++ padding B L (q * B + length rest)) ≡ blocks B L (length rest) * B
length_rest B L q rest h =
    length-append rest (padding B L (q * B + length rest))
    ∙ (rw (length_padding B L (q * B + length rest), zeros_more B L q (length rest) h) (whole B L (length rest) h))

-- a message is hashed by absorbing its whole blocks and finishing with what is left
pub in_parts : {S : Type 0} (f : S → List ℕ → S) (B L : ℕ) (m : List ℕ) (s : S) → 0 < B
    → finished f B L (length m) (drop (length m / B * B) m) (absorbed f B m s) ≡ hash f B L s m
unfolding finished absorbed hash
in_parts {S} f B L m s h =
    let q : ℕ = length m / B in
    let rest : List ℕ = drop (q * B) m in
    let le : q * B ≤ length m = div-mul-le_self (length m) B in
    let n : length m ≡ q * B + length rest = omega (arith, length-drop (q * B) m) in
    let l : length (rest ++ padding B L (length m)) ≡ blocks B L (length rest) * B = ap (λ (k : ℕ). length (rest ++ padding B L k)) n ∙ length_rest B L q rest h in
    let d : length (rest ++ padding B L (length m)) / B ≡ blocks B L (length rest) = ap (λ (k : ℕ). k / B) l ∙ mul-div_cancel (blocks B L (length rest)) h in
    let b : blocks B L (length m) ≡ q + blocks B L (length rest) = ap (blocks B L) n ∙ blocks_more B L q (length rest) h in
    ap (λ (k : ℕ). chain f B k (rest ++ padding B L (length m)) (chain f B q m s)) d
    ∙ sym (ap (λ (k : ℕ). chain f B k (m ++ padding B L (length m)) s) b ∙ chain_split f B q (blocks B L (length rest)) m (padding B L (length m)) s le)

-- the last blocks of a message of n bytes, as they are written into d
pub closing : (B L n z e : ℕ) (rest d : List ℕ) {d' : List ℕ} {r : ℕ} → 0 < B → n % B ≡ length rest → z ≡ zeros B L (length rest)
    → e ≡ blocks B L (length rest) * B → Room d 0 (rest ++ ending z L n) → Put d 0 (rest ++ ending z L n) r d'
    → take e d' ≡ rest ++ padding B L n
unfolding padding
closing B L n z e rest d {d'} h m hz he room put =
    let q : n ≡ n / B * B + length rest = sym (div-add-mod' n B) ∙ ap (λ (k : ℕ). n / B * B + k) m in
    let same : zeros B L n ≡ zeros B L (length rest) = ap (zeros B L) q ∙ zeros_more B L (n / B) (length rest) h in
    let k : rest ++ ending z L n ≡ rest ++ padding B L n = ap (λ (i : ℕ). rest ++ ending i L n) (hz ∙ sym same) in
    let l : length (rest ++ padding B L n) ≡ e = ap (λ (i : ℕ). length (rest ++ padding B L i)) q ∙ length_rest B L (n / B) rest h ∙ sym he in
    ap (λ (i : ℕ). take i d') (sym (ap length k ∙ l)) ∙ part_put room put ∙ k

-- what `&m[k..]` lends
pub lent_rest : (k : ℕ) (m : List ℕ) → take (length m - k) (drop k m) ≡ drop k m
lent_rest k m = take_all (length m - k) (drop k m) (omega (arith, length-drop k m))

-- the end of the last blocks, where `rest` bytes are left
pub end_of : (B L rest : ℕ) → (rest + L) / B * B + B ≡ blocks B L rest * B
unfolding blocks
end_of B L rest = rw (add-mul ((rest + L) / B) 1 B, one-mul B)

-- the zero bytes in them
pub zeros_of : (B L rest : ℕ) → (rest + L) / B * B + B - (L + 1) - rest ≡ zeros B L rest
unfolding zeros
zeros_of B L rest = rw (← end_of B L rest) (omega arith)

-- an array that holds the last blocks has room for them
pub room_last : (B L n : ℕ) (rest d : List ℕ) → 0 < B → (length rest + L) / B * B + B ≤ length d
    → Room d 0 (rest ++ ending ((length rest + L) / B * B + B - (L + 1) - length rest) L n)
unfolding ending
room_last B L n rest d h g =
    let l : length rest + (1 + zeros B L (length rest) + L) ≡ (length rest + L) / B * B + B = whole B L (length rest) h ∙ sym (end_of B L (length rest)) in
    record { fits = rw zeros_of (simp (length-append, length-replicate, length_bytes) (omega arith)) }

-- what those blocks give is the hash value after the padded message
pub last_blocks : {S : Type 0} (f : S → List ℕ → S) (B L n : ℕ) (rest d : List ℕ) (s : S) {d' : List ℕ} {r : ℕ} {v : S} → 0 < B → n % B ≡ length rest
    → (length rest + L) / B * B + B ≤ length d → Put d 0 (rest ++ ending ((length rest + L) / B * B + B - (L + 1) - length rest) L n) r d'
    → v ≡ absorbed f B (take ((length rest + L) / B * B + B) d') s → v ≡ finished f B L n rest s
unfolding finished
last_blocks f B L n rest d s h m g p e =
    e ∙ ap (λ (x : List ℕ). absorbed f B x s) (closing B L n _ _ rest d h m (zeros_of B L (length rest)) (end_of B L (length rest)) (room_last B L n rest d h g) p)

-- a message whose padding still fits its block
pub hash_one : {S : Type 0} (f : S → List ℕ → S) (B L : ℕ) (m : List ℕ) (s : S) → 0 < B → blocks B L (length m) ≡ 1
    → hash f B L s m ≡ f s (m ++ padding B L (length m))
unfolding hash run
hash_one f B L m s h b =
    let l : length (m ++ padding B L (length m)) ≤ B = omega (arith, length_padded B L m h ∙ ap (λ (k : ℕ). k * B) b ∙ one-mul B) in
    rw (b, zero-mul B, take_all B (m ++ padding B L (length m)) l)

-- a message of one whole block, whose padding is a block of its own
pub hash_two : {S : Type 0} (f : S → List ℕ → S) (B L : ℕ) (m : List ℕ) (s : S) → 0 < B → length m ≡ B → blocks B L B ≡ 2
    → hash f B L s m ≡ f (f s m) (padding B L B)
unfolding hash run
hash_two f B L m s h e b =
    let n : blocks B L (length m) ≡ 1 + 1 = ap (blocks B L) e ∙ b in
    let w : B + length (padding B L B) ≡ 2 * B = ap (λ (k : ℕ). B + k) (length_padding B L B) ∙ whole B L B h ∙ ap (λ (k : ℕ). k * B) b in
    let lp : length (padding B L B) ≤ B = omega arith in
    let c : chain f B 1 m s ≡ f s m = rw (zero-mul B, take_all B m (le_of_eq e)) in
    let d : chain f B 1 (padding B L B) (f s m) ≡ f (f s m) (padding B L B) = rw (zero-mul B, take_all B (padding B L B) lp) in
    ap (λ (k : ℕ). chain f B k (m ++ padding B L (length m)) s) n
    ∙ chain_append f B 1 1 m (padding B L (length m)) s (e ∙ sym (one-mul B))
    ∙ (rw (c, e)) ∙ d

-- ---- the schedule of SHA-2

-- a word of the schedule looks only at the words before it
pub next_take : (p : Member) (t : ℕ) (w : List ℕ) → next p t w ≡ next p t (take (t + 16) w)
next_take p t w =
    rw (get_or-take (t + 16) w (t + 14) 0 (omega arith), get_or-take (t + 16) w (t + 9) 0 (omega arith), get_or-take (t + 16) w (t + 1) 0 (omega arith), get_or-take (t + 16) w t 0 (omega arith))
