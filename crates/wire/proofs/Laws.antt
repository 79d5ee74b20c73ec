-- What the crates above cite of numbers in bytes, over any width, and of runs of stores; and what this crate's own functions rest on. Assumes nothing.
use Rattle.std.proofs.Common.{ℕ, suc, zero, ◌≡◌, ◌+◌, ◌-◌, ◌*◌, ◌/◌, ◌%◌, ◌^◌, ◌≤◌, ◌<◌, List, [], ◌∷◌, ◌++◌, length, set, drop, take, get_or, refl, sym, ap, ◌∙◌, append-nil, append_assoc, arith, pow-suc, mod-eq_of_lt, add-zero, drop_of_length-le, length-append, length-set, length-take, mul-le-mul_right, length-drop, length-take-le, take_all, drop-cons, drop-drop, get_or-drop, Fits, w8}
use Rattle.std.proofs.Math.Nat.{pow-le-pow_right, one-le-pow}
use Rattle.std.proofs.Math.Arith.{mod-mul}
use Rattle.std.proofs.lemmas.List.{take_more_set}
use Rattle.std.proofs.Math.Seq.{sets, length-sets, sets-eq, take-append_seam, drop-append_seam}
use Rattle.wire.specs.Bytes.{le, unle, part, num, Bytes, Put, Room}

-- ---- numbers and their bytes

-- `le w` gives w bytes
pub length_le : (w n : ℕ) → length (le w n) ≡ w
unfolding le
length_le zero n = refl
length_le (suc w) n = ap suc (length_le w (n / 256))

-- each of them is a byte
pub le_bytes : (w n : ℕ) → Bytes (le w n)
unfolding le
le_bytes w n = record { each = below w n }
  where
    below : (w n i : ℕ) → get_or (le w n) i 0 < 256
    below zero n i = omega arith
    below (suc w) n zero = omega arith
    below (suc w) n (suc i) = below w (n / 256) i

-- the number in the w low bytes of n is n modulo 256 ^ w
pub unle_le : (w n : ℕ) → unle (le w n) ≡ n % 256 ^ w
unfolding le unle
unle_le zero n = omega arith
unle_le (suc w) n =
    let p : 0 < 256 ^ w = one-le-pow w 256 (omega arith) in
    rw (pow-suc 256 w) (omega (arith, unle_le w (n / 256), mod-mul n {m = 256 ^ w} {c = 256} p (omega arith)))

-- a number that w bytes hold comes back whole
pub unle_le_small : (w n : ℕ) → n < 256 ^ w → unle (le w n) ≡ n
unle_le_small w n h = unle_le w n ∙ mod-eq_of_lt h

-- what follows the first of bytes is bytes
tail : {b : ℕ} {bs : List ℕ} → Bytes (b ∷ bs) → Bytes bs
tail h = record { each = λ i. h.each (suc i) }

-- bytes are those of the number that they spell
pub le_unle : {bs : List ℕ} → Bytes bs → le (length bs) (unle bs) ≡ bs
unfolding le unle
le_unle {bs = []} h = refl
le_unle {bs = b ∷ bs} h =
    let low : (b + 256 * unle bs) % 256 ≡ b = omega (arith, h.each 0) in
    let high : (b + 256 * unle bs) / 256 ≡ unle bs = omega (arith, h.each 0) in
    rw (low, high, le_unle (tail h))

-- bytes spell a number below 256 for each of them
pub unle_lt : {bs : List ℕ} → Bytes bs → unle bs < 256 ^ length bs
unfolding unle
unle_lt {bs = []} h = omega arith
unle_lt {bs = b ∷ bs} h = rw (pow-suc 256 (length bs)) (omega (arith, h.each 0, unle_lt (tail h)))

-- two numbers that w bytes hold and that have the same bytes are equal
pub le_inj : (w : ℕ) {m n : ℕ} → m < 256 ^ w → n < 256 ^ w → le w m ≡ le w n → m ≡ n
le_inj w {m} {n} hm hn e = sym (unle_le_small w m hm) ∙ ap unle e ∙ unle_le_small w n hn

-- ---- bytes at a place

-- what is known of the elements of a `[u8]` makes them bytes
pub bytes_known : {s : List ℕ} → ((i : ℕ) → Fits w8 (get_or s i 0)) → Bytes s
bytes_known h = record { each = λ i. (h i).fits }

-- a part of bytes is bytes
pub bytes_part : (s : List ℕ) (at n : ℕ) → Bytes s → Bytes (part s at n)
bytes_part s at n h = record { each = taken n (drop at s) (λ i. rw get_or-drop (h.each (at + i))) }
  where
    taken : (n : ℕ) (s : List ℕ) → ((i : ℕ) → get_or s i 0 < 256) → (i : ℕ) → get_or (take n s) i 0 < 256
    taken zero s h i = omega arith
    taken (suc n) [] h i = omega arith
    taken (suc n) (x ∷ xs) h zero = h 0
    taken (suc n) (x ∷ xs) h (suc i) = taken n xs (λ j. h (suc j)) i

-- the number in w bytes is below 256 ^ w
pub num_lt : (s : List ℕ) (at w : ℕ) → Bytes s → num s at w < 256 ^ w
unfolding num
num_lt s at w h =
    let l : length (part s at w) ≤ w = rw length-take (omega arith) in
    omega (arith, unle_lt (bytes_part s at w h), pow-le-pow_right {n = 256} (omega arith) l)

-- ---- reading in an appended list

-- the bytes b that stand after a are found at a's end
pub part_here : (a b c : List ℕ) → part (a ++ (b ++ c)) (length a) (length b) ≡ b
part_here a b c = rw (drop-append_seam a (b ++ c)) (take-append_seam b c)

-- the number that stands after a is found at a's end
pub num_here : (a : List ℕ) (w n : ℕ) (c : List ℕ) → num (a ++ (le w n ++ c)) (length a) w ≡ n % 256 ^ w
unfolding num
num_here a w n c = ap unle (rw length_le at (part_here a (le w n) c)) ∙ unle_le w n

-- ---- runs of stores

-- a run of xs and ys is a run of xs and, right behind it, one of ys
pub sets_append : (xs d ys : List ℕ) (i : ℕ) → sets d i (xs ++ ys) ≡ sets (sets d i xs) (i + length xs) ys
sets_append [] d ys i = rw add-zero
sets_append (x ∷ xs) d ys i =
    let e : suc i + length xs ≡ i + suc (length xs) = omega arith in
    sets_append xs (set d i x) ys (suc i) ∙ rw e

-- a run in the tail of l from u on is a run in l
pub sets_tail : (u : ℕ) (l bs : List ℕ) → take u l ++ sets (drop u l) 0 bs ≡ sets l u bs
sets_tail zero l bs = refl
sets_tail (suc u) [] bs = none bs 0 ∙ sym (none bs (suc u))
  where
    none : (bs : List ℕ) (u : ℕ) → sets [] u bs ≡ []
    none [] u = refl
    none (b ∷ bs) u = none bs (suc u)
sets_tail (suc u) (x ∷ xs) bs = ap (λ (r : List ℕ). x ∷ r) (sets_tail u xs bs) ∙ sym (past xs bs u)
  where
    past : (xs bs : List ℕ) (u : ℕ) → sets (x ∷ xs) (suc u) bs ≡ x ∷ sets xs u bs
    past xs [] u = refl
    past xs (b ∷ bs) u = past (set xs u b) bs (suc u)

-- ---- what was written, and room for it

-- nothing written is a run of no bytes
pub nothing : (d : List ℕ) (at : ℕ) → Put d at [] at d
nothing d at = record { next = sym (add-zero at); bytes = refl }

-- what was written after xs, right behind them, makes one run of the two
pub then : {d xs ys m m' : List ℕ} {at j k : ℕ} → Put d at xs j m → Put m j ys k m' → Put d at (xs ++ ys) k m'
then {d} {xs} {ys} {at} p q =
    record {
      next = omega (arith, length-append xs ys);
      bytes = q.bytes ∙ rw (p.bytes, p.next, sets_append xs d ys at);
    }

-- a write leaves the length as it was
pub put_length : {d xs m : List ℕ} {at j : ℕ} → Put d at xs j m → length m ≡ length d
put_length {d} {xs} {at} p = ap length p.bytes ∙ length-sets d at xs

-- room for two runs is room for the first
pub room_first : (xs ys : List ℕ) {d : List ℕ} {at : ℕ} → Room d at (xs ++ ys) → Room d at xs
room_first xs ys h = record { fits = omega (arith, length-append xs ys) }

-- room for two runs is, after the first was written, room for the second behind it
pub room_then : (xs ys : List ℕ) {d m : List ℕ} {at j : ℕ} → Room d at (xs ++ ys) → Put d at xs j m → Room m j ys
room_then xs ys h p = record { fits = omega (arith, length-append xs ys, put_length p) }

-- what was written, as the paper says it: what is before, the bytes, and what is after
pub put_is : {d bs d' : List ℕ} {at r : ℕ} → Room d at bs → Put d at bs r d' → d' ≡ take at d ++ (bs ++ drop (at + length bs) d)
put_is {d} {bs} {at} h p = p.bytes ∙ sets-eq bs d at h.fits ∙ append_assoc (take at d) bs (drop (at + length bs) d)

-- a write that covers the whole is the whole
pub put_all : {d bs d' : List ℕ} {r : ℕ} → Put d 0 bs r d' → length bs ≡ length d → d' ≡ bs
put_all {d} {bs} p h =
    put_is (record { fits = omega arith }) p ∙ ap (λ (l : List ℕ). bs ++ l) (drop_of_length-le d {i = 0 + length bs} (omega arith)) ∙ append-nil bs

-- what was written is found where it was written
pub part_put : {d bs d' : List ℕ} {at r : ℕ} → Room d at bs → Put d at bs r d' → part d' at (length bs) ≡ bs
part_put {d} {bs} {at} h p =
    let l : length (take at d) ≡ at = length-take-le at d (omega arith) in
    rw (put_is h p) (rw l at (part_here (take at d) bs (drop (at + length bs) d)))

-- a number that was written is read back, modulo 256 ^ w
pub num_put : {d d' : List ℕ} {at r : ℕ} (w n : ℕ) → Room d at (le w n) → Put d at (le w n) r d' → num d' at w ≡ n % 256 ^ w
unfolding num
num_put w n h p = ap unle (rw length_le at (part_put h p)) ∙ unle_le w n

-- a number that w bytes hold and that was written is read back
pub num_put_small : {d d' : List ℕ} {at r : ℕ} (w n : ℕ) → n < 256 ^ w → Room d at (le w n) → Put d at (le w n) r d' → num d' at w ≡ n
num_put_small w n b h p = num_put w n h p ∙ mod-eq_of_lt b

-- no second answer, and no second content, meets what a writer states
pub put_unique : {d bs d' d'' : List ℕ} {at r r' : ℕ} → Put d at bs r d' → Put d at bs r' d'' → (r ≡ r') × (d' ≡ d'')
put_unique p q = (p.next ∙ sym q.next, p.bytes ∙ sym q.bytes)

-- ---- a loop of writers: `all` is to be written at place at of d₀, d is the content so far, p the place, and bs what is left to write

pub record Left (d₀ : List ℕ) (at : ℕ) (all d : List ℕ) (p : ℕ) (bs : List ℕ) : Type 0 where
  pub room : Room d p bs
  pub same : sets d p bs ≡ sets d₀ at all
  pub ends : p + length bs ≡ at + length all

-- before the first turn
pub left_all : {d bs : List ℕ} {at : ℕ} → Room d at bs → Left d at bs d at bs
left_all h = record { room = h; same = refl; ends = refl }

-- a turn that writes xs
pub left_more : (xs ys : List ℕ) {d₀ all d d' : List ℕ} {at p p' : ℕ} → Left d₀ at all d p (xs ++ ys) → Put d p xs p' d' → Left d₀ at all d' p' ys
left_more xs ys {d = d} {p = p} l w =
    record {
      room = room_then xs ys l.room w;
      same = rw (w.bytes, w.next) (sym (sets_append xs d ys p) ∙ l.same);
      ends = omega (arith, l.ends, w.next, length-append xs ys);
    }

-- after the last turn
pub left_none : {d₀ all d : List ℕ} {at p : ℕ} → Left d₀ at all d p [] → Put d₀ at all p d
left_none {p = p} l = record { next = sym (add-zero p) ∙ l.ends; bytes = l.same }

-- ---- a part that was lent

-- what a callee that was lent `&mut l[a..e]` left there, m, said of the whole: a run of stores from a on
pub lent_part : (l m : List ℕ) (a e : ℕ) → a ≤ e → e ≤ length l → length m ≡ e - a → take a l ++ (m ++ drop (e - a) (drop a l)) ≡ sets l a m
lent_part l m a e h g k =
    let n : a + (e - a) ≡ a + length m = omega arith in
    rw (drop-drop (e - a) a l, n) (sym (append_assoc (take a l) m (drop (a + length m) l)) ∙ sym (sets-eq m l a (omega arith)))

-- what a callee that was lent `&mut l[u..]` wrote at its front was written into l from u on
pub lent_tail : {bs m : List ℕ} {n : ℕ} (l : List ℕ) (u : ℕ) → Put (take (length l - u) (drop u l)) 0 bs n m
    → Put l u bs (u + n) (take u l ++ (m ++ drop (length l - u) (drop u l)))
lent_tail {bs} {m} l u p =
    let h : length (drop u l) ≤ length l - u = omega (arith, length-drop u l) in
    let q : m ≡ sets (drop u l) 0 bs = rw (take_all (length l - u) (drop u l) h) at p.bytes in
    record {
      next = omega arith;
      bytes = rw (drop_of_length-le (drop u l) h, append-nil, q) (sets_tail u l bs);
    }

-- the same of an array l, whose length n is a numeral
pub lent_tail_of : {bs m : List ℕ} {k : ℕ} (l : List ℕ) (u n : ℕ) → length l ≡ n → Put (take (n - u) (drop u l)) 0 bs k m
    → Put l u bs (u + k) (take u l ++ (m ++ drop (n - u) (drop u l)))
lent_tail_of l u n e p = rw (← e) (lent_tail l u (rw (← e) at p))

-- ---- the writers and the reader of this crate

-- the part of d from place at to e, written over, is a write of what it now holds
pub put_over : (d : List ℕ) {bs ys : List ℕ} (at e r : ℕ) → Room d at bs → e ≡ at + length bs → r ≡ at + length bs → ys ≡ bs
    → Put d at bs r (take at d ++ (ys ++ drop (e - at) (drop at d)))
put_over d {bs} {ys} at e r h n m q =
    let l : length ys ≡ e - at = omega (arith, ap length q) in
    record { next = m; bytes = lent_part d ys at e (omega arith) (omega (arith, h.fits)) l ∙ ap (sets d at) q }

-- a turn of `put_le`: the bytes before place i and then those of v, with a byte of v written
pub le_turn : (bs : List ℕ) (i v : ℕ) → i < length bs
    → take (i + 1) (set bs i (v % 256)) ++ le (length (set bs i (v % 256)) - (i + 1)) (v / 256) ≡ take i bs ++ le (length bs - i) v
unfolding le
le_turn bs i v h =
    let e : length bs - i ≡ suc (length bs - (i + 1)) = omega arith in
    rw (take_more_set bs i (v % 256) h, length-set bs i (v % 256), e) (append_assoc (take i bs) ((v % 256) ∷ []) (le (length bs - (i + 1)) (v / 256)))

-- the end of `put_le`: every byte is written
pub le_end : (d bs : List ℕ) (at w n i v : ℕ) → Room d at (le w n) → length bs ≡ w → w ≤ i → take i bs ++ le (length bs - i) v ≡ le w n
    → Put d at (le w n) (at + w) (take at d ++ (bs ++ drop (at + w - at) (drop at d)))
unfolding le
le_end d bs at w n i v h l k e =
    let z : length bs - i ≡ 0 = omega arith in
    let t : bs ++ le 0 v ≡ le w n = rw (take_all i bs (omega arith), z) at e in
    put_over d at (at + w) (at + w) h (omega (arith, length_le w n)) (omega (arith, length_le w n)) (sym (append-nil bs) ∙ t)

-- what the check tries at each goal of `put_le`
pub ruleset writing = (length_le, le_turn, le_end)

-- a turn of `put_bytes`: what is left to write, with a byte of it stored
pub bytes_turn : (d s : List ℕ) (at i : ℕ) {x : ℕ} → i < length s → x ≡ get_or s i 0
    → sets (set d (at + i) x) (at + (i + 1)) (drop (i + 1) s) ≡ sets d (at + i) (drop i s)
bytes_turn d s at i h e =
    let q : i + 1 ≡ suc i = omega arith in
    let p : at + suc i ≡ suc (at + i) = omega arith in
    rw (drop-cons s i 0 h, q, p, e)

-- the end of `put_bytes`: nothing is left to write
pub bytes_end : (d₀ d s : List ℕ) (at i : ℕ) → length s ≤ i → sets d (at + i) (drop i s) ≡ sets d₀ at s → Put d₀ at s (at + length s) d
bytes_end d₀ d s at i h e = record { next = refl; bytes = rw (drop_of_length-le s h) at e }

-- what the check tries at each goal of `put_bytes`
pub ruleset copying = (bytes_turn, bytes_end)

-- the number of bytes with one more behind them
unle_push : (bs : List ℕ) (b : ℕ) → unle (bs ++ b ∷ []) ≡ unle bs + 256 ^ length bs * b
unfolding unle
unle_push [] b = omega arith
unle_push (c ∷ bs) b = rw (unle_push bs b, pow-suc 256 (length bs)) (omega arith)

-- the begin of `get_le`: all bytes are still to be read
pub num_begin : (s : List ℕ) (at w : ℕ) {cs : List ℕ} → cs ≡ take (at + w - at) (drop at s) → unle cs + 256 ^ length cs * 0 ≡ num s at w
unfolding num
num_begin s at w {cs} e =
    let k : at + w - at ≡ w = omega arith in
    let t = rw k at e in
    rw t (omega arith)

-- a turn of `get_le`: the bytes still to be read, with v behind them, spell x, and their last is read
pub num_turn : (bs : List ℕ) {cs : List ℕ} (b v : ℕ) {x : ℕ} → cs ≡ bs ++ b ∷ [] → unle cs + 256 ^ length cs * v ≡ x
    → unle bs + 256 ^ length bs * (v * 256 + b) ≡ x
num_turn bs b v e h =
    let n : length (bs ++ b ∷ []) ≡ suc (length bs) = length-append bs (b ∷ []) ∙ omega arith in
    let t = rw (e, unle_push bs b, n, pow-suc 256 (length bs)) at h in
    omega arith

-- the end of `get_le`: none is left
pub num_end : (bs : List ℕ) (v : ℕ) {x : ℕ} → length bs ≡ 0 → unle bs + 256 ^ length bs * v ≡ x → v ≡ x
unfolding unle
num_end [] v e h = omega arith
num_end (b ∷ bs) v e h = absurd (omega arith)

-- what such a turn makes of v fits a u64, where the number has at most 8 bytes
pub turn_fits : (bs : List ℕ) {cs : List ℕ} (b v : ℕ) (s : List ℕ) (at w : ℕ) → Bytes s → w ≤ 8 → cs ≡ bs ++ b ∷ []
    → unle cs + 256 ^ length cs * v ≡ num s at w → v * 256 + b < 2 ^ 64
turn_fits bs b v s at w h k e i =
    let turn = num_turn bs b v e i in
    let high = mul-le-mul_right (v * 256 + b) (one-le-pow (length bs) 256 (omega arith)) in
    omega (arith, num_lt s at w h, pow-le-pow_right {n = 256} (omega arith) k)

-- what the check tries at each goal of `get_le`
pub ruleset reading = (num_begin, num_turn, num_end, turn_fits, num_lt, bytes_known)
