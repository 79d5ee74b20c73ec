-- Fields one after another in bytes, both ways: what lies at a place, what lies behind it, and bytes that are copied out. Assumes nothing.
use Rattle.std.proofs.Common.{ℕ, ◌≡◌, ◌+◌, ◌-◌, ◌≤◌, ◌<◌, ◌^◌, List, ◌++◌, length, drop, sym, ◌∙◌, arith, take-append-drop, length-drop, drop-drop, take_at, drop_at, length-take-le}
use Rattle.wire.specs.Bytes.{le, unle, num, part, Bytes, Put}
use Rattle.wire.proofs.Laws.{length_le, unle_le_small, le_unle, bytes_part, put_all}

-- from fields to bytes and back: where a field's bytes lie at place at of s, with the bytes x behind them
module _ (s : List ℕ) where
  -- x lies at the field's end
  pub past : (at k j : ℕ) (a x : List ℕ) → j ≡ at + k → length a ≡ k → drop at s ≡ a ++ x → drop j s ≡ x
  past at k j a x e l h = rw (e, ← drop-drop k at s, h) (drop_at a x k l)

  -- and a number is read as it was written
  pub num_in : (at w n : ℕ) (x : List ℕ) → n < 256 ^ w → drop at s ≡ le w n ++ x → num s at w ≡ n
  unfolding num
  num_in at w n x b h = rw (h, take_at (le w n) x w (length_le w n)) (unle_le_small w n b)

-- from bytes to fields and back: the number at place at, written again, is what lay there
pub num_out : (s : List ℕ) → Bytes s → (at w j : ℕ) → j ≡ at + w → j ≤ length s → le w (num s at w) ++ drop j s ≡ drop at s
unfolding num
num_out s h at w j f k =
    let l : length (part s at w) ≡ w = length-take-le w (drop at s) (omega (arith, length-drop at s)) in
    let e : le w (unle (part s at w)) ≡ part s at w = rw l at (le_unle (bytes_part s at w h)) in
    rw (e, f, ← drop-drop w at s) (take-append-drop w (drop at s))

-- the last n bytes of s, written over the whole of d
pub put_tail : (s : List ℕ) (at n : ℕ) {d d' : List ℕ} {k : ℕ} → length s ≡ at + n → length d ≡ n → Put d 0 (part s at (length s - at)) k d' → d' ≡ part s at n
put_tail s at n e h p =
    let m : length s - at ≡ n = omega arith in
    put_all (rw m at p) (length-take-le n (drop at s) (omega (arith, length-drop at s)) ∙ sym h)
