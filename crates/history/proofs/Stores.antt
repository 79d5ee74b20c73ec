-- A log that is offered the entries of some measurements, one after another: it takes those before the first without room, and no other. Assumes
-- nothing.
use Rattle.std.proofs.Common.{Bool, true, false, cond, List, [], ◌∷◌, ◌++◌, append_assoc, append-nil, ◌≡◌, refl, sym, ap, ◌∙◌, ℕ, ◌+◌, ◌≤◌, ◌<◌, arith, leb-true, leb, length, take, drop, length-append, take_at, length-take-le}
use Rattle.std.proofs.Math.Seq.{sets}
use Rattle.wire.proofs.Laws.{put_is, put_length}
use Rattle.store.specs.Store.{Offered, taken, shut, offered, TableOffered, table_taken, table_shut, table_offered}
use Rattle.history.specs.History.{Measure, fitting, cut_off, all_bytes}

-- the used bytes
abbrev pub kept : Offered → List ℕ
kept o = take o.store.used o.buffer

-- a run of bytes put behind the used ones
module _ (buffer s : List ℕ) (used : ℕ) (h : used + length s ≤ length buffer) where
  pub sets_is : sets buffer used s ≡ take used buffer ++ (s ++ drop (used + length s) buffer)
  sets_is = put_is {d = buffer} {bs = s} {d' = sets buffer used s} {at = used} {r = used + length s} (record { fits = h }) (record { next = refl; bytes = refl })

  pub grown : take (used + length s) (sets buffer used s) ≡ take used buffer ++ s
  grown =
      rw (sets_is, ← append_assoc)
      (take_at (take used buffer ++ s) (drop (used + length s) buffer) (used + length s) (rw (length-append, length-take-le used buffer (omega arith))))

pub length_sets : (buffer s : List ℕ) (used : ℕ) → length (sets buffer used s) ≡ length buffer
length_sets buffer s used = put_length {d = buffer} {xs = s} {at = used} {j = used + length s} (record { next = refl; bytes = refl })

-- the three ways of an offer
pub offer_closed : (bytes : List ℕ) (o : Offered) → o.store.closed ≡ true → offered bytes o.store o.buffer ≡ o
unfolding offered
offer_closed bytes o h = rw h

pub offer_taken : (bytes : List ℕ) (o : Offered) → o.store.closed ≡ false → leb (o.store.used + length bytes) (length o.buffer) ≡ true
    → offered bytes o.store o.buffer ≡ taken bytes o.store o.buffer
unfolding offered
offer_taken bytes o h k = rw (h, k)

pub offer_shut : (bytes : List ℕ) (o : Offered) → o.store.closed ≡ false → leb (o.store.used + length bytes) (length o.buffer) ≡ false
    → offered bytes o.store o.buffer ≡ shut o.store o.buffer
unfolding offered
offer_shut bytes o h k = rw (h, k)

-- the same of the table
pub table_closed : (bytes : List ℕ) (o : TableOffered) → o.table.closed ≡ true → table_offered bytes o.table o.buffer ≡ o
unfolding table_offered
table_closed bytes o h = rw h

pub table_taken_lem : (bytes : List ℕ) (o : TableOffered) → o.table.closed ≡ false → leb (o.table.used + length bytes) (length o.buffer) ≡ true
    → table_offered bytes o.table o.buffer ≡ table_taken bytes o.table o.buffer
unfolding table_offered
table_taken_lem bytes o h k = rw (h, k)

pub table_shut_lem : (bytes : List ℕ) (o : TableOffered) → o.table.closed ≡ false → leb (o.table.used + length bytes) (length o.buffer) ≡ false
    → table_offered bytes o.table o.buffer ≡ table_shut o.table o.buffer
unfolding table_offered
table_shut_lem bytes o h k = rw (h, k)

module _ (bytes : Measure → List ℕ) where
  unfoldable pub puts : List Measure → Offered → Offered
  puts [] o = o
  puts (m ∷ ms) o = puts ms (offered (bytes m) o.store o.buffer)

  -- 01: "closed for good, even to smaller entries"
  pub puts_closed : (ms : List Measure) (o : Offered) → o.store.closed ≡ true → puts ms o ≡ o
  unfolding puts
  puts_closed [] o h = refl
  puts_closed (m ∷ ms) o h = ap (puts ms) (offer_closed (bytes m) o h) ∙ puts_closed ms o h

  -- what a store that was open holds after the offers
  pub record Stored (cap : ℕ) (o : Offered) (ms : List Measure) (o' : Offered) : Type 0 where
    pub bytes_are : kept o' ≡ kept o ++ all_bytes bytes (fitting bytes cap o.store.used ms)
    pub closed_is : o'.store.closed ≡ cut_off bytes cap o.store.used ms

  step : (cap : ℕ) (m : Measure) (ms : List Measure) (o : Offered) → o.store.closed ≡ false → length o.buffer ≡ cap
      → ((o' : Offered) → o'.store.closed ≡ false → length o'.buffer ≡ cap → o'.store.used ≤ cap → Stored cap o' ms (puts ms o'))
      → (b : Bool) → leb (o.store.used + length (bytes m)) cap ≡ b → Stored cap o (m ∷ ms) (puts (m ∷ ms) o)
  unfolding puts fitting cut_off all_bytes
  step cap m ms o h l ih true e =
      let room : o.store.used + length (bytes m) ≤ cap = leb-true _ _ e in
      let r : o.store.used + length (bytes m) ≤ length o.buffer = omega arith in
      let t : Offered = taken (bytes m) o.store o.buffer in
      let same : offered (bytes m) o.store o.buffer ≡ t = offer_taken (bytes m) o h (rw l e) in
      let i : Stored cap t ms (puts ms t) = ih t refl (length_sets o.buffer (bytes m) o.store.used ∙ l) room in
      record {
        bytes_are = ap (λ (z : Offered). kept (puts ms z)) same ∙ i.bytes_are ∙ (rw (e, grown o.buffer (bytes m) o.store.used r, append_assoc));
        closed_is = ap (λ (z : Offered). (puts ms z).store.closed) same ∙ i.closed_is ∙ (rw e);
      }
  step cap m ms o h l ih false e =
      let same : puts ms (offered (bytes m) o.store o.buffer) ≡ shut o.store o.buffer =
      ap (puts ms) (offer_shut (bytes m) o h (rw l e)) ∙ puts_closed ms (shut o.store o.buffer) refl in
      record {
        bytes_are = ap kept same ∙ (rw e (sym (append-nil _)));
        closed_is = ap (λ (z : Offered). z.store.closed) same ∙ (rw e);
      }

  pub puts_open : (cap : ℕ) (ms : List Measure) (o : Offered) → o.store.closed ≡ false → length o.buffer ≡ cap → o.store.used ≤ cap → Stored cap o ms (puts ms o)
  unfolding puts fitting cut_off all_bytes
  puts_open cap [] o h l u = record { bytes_are = sym (append-nil _); closed_is = h }
  puts_open cap (m ∷ ms) o h l u = step cap m ms o h l (puts_open cap ms) (leb (o.store.used + length (bytes m)) cap) refl

-- ---- where nothing was cut off, all was taken

module _ (bytes : Measure → List ℕ) (cap : ℕ) where
  pub fitting_all : (used : ℕ) (ms : List Measure) → cut_off bytes cap used ms ≡ false → fitting bytes cap used ms ≡ ms
  unfolding cut_off fitting
  fitting_all used [] h = refl
  fitting_all used (m ∷ ms) h = go (leb (used + length (bytes m)) cap) h (fitting_all (used + length (bytes m)) ms)
    where
      go : (b : Bool) → cond b (cut_off bytes cap (used + length (bytes m)) ms) true ≡ false
          → (cut_off bytes cap (used + length (bytes m)) ms ≡ false → fitting bytes cap (used + length (bytes m)) ms ≡ ms)
          → cond b (m ∷ fitting bytes cap (used + length (bytes m)) ms) [] ≡ m ∷ ms
      go true k ih = ap (λ (r : List Measure). m ∷ r) (ih k)
      go false k ih = absurd (let z : ◌≡◌ {A = ℕ} 0 1 = cc in omega arith)

  -- and where something was cut off, not all was taken
  pub fitting_less : (used : ℕ) (ms : List Measure) → cut_off bytes cap used ms ≡ true → length (fitting bytes cap used ms) < length ms
  unfolding cut_off fitting
  fitting_less used [] h = absurd (let z : ◌≡◌ {A = ℕ} 0 1 = cc in omega arith)
  fitting_less used (m ∷ ms) h = go (leb (used + length (bytes m)) cap) h (fitting_less (used + length (bytes m)) ms)
    where
      go : (b : Bool) → cond b (cut_off bytes cap (used + length (bytes m)) ms) true ≡ true
          → (cut_off bytes cap (used + length (bytes m)) ms ≡ true → length (fitting bytes cap (used + length (bytes m)) ms) < length ms)
          → length (cond b (m ∷ fitting bytes cap (used + length (bytes m)) ms) []) < length (m ∷ ms)
      go true k ih = omega (arith, ih k)
      go false k ih = omega arith
