-- The final table that is offered the entries of some measurements, one after another, and what any calls leave in it. Assumes nothing.
use Rattle.std.proofs.Common.{Bool, true, false, not, ◌&&◌, ◌||◌, List, [], ◌∷◌, ◌++◌, append_assoc, append-nil, ◌≡◌, refl, sym, ap, subst, ◌∙◌, ℕ, ◌+◌, ◌≤◌, add-zero, arith, leb-true, leb, length, take, drop, length-append, take_at, drop_at}
use Rattle.std.proofs.Math.Seq.{sets}
use Rattle.wire.specs.Bytes.{le}
use Rattle.wire.proofs.Laws.{length_le}
use Rattle.bank.specs.Bank.{banks}
use Rattle.entry.specs.Entry.{agile_bytes}
use Rattle.store.specs.Store.{TableOffered, table_taken, table_shut, table_offered, offer_table_if}
use Rattle.request.specs.Request.{extend_only}
use Rattle.request.specs.Request as spec
use Rattle.history.specs.History.{Call, ask, reading, Panel, step, run, Measure, measure_of, entry_of, is_good, arms, keep_if, tabled, fitting, cut_off, all_bytes}
use Rattle.history.proofs.Stores.{sets_is, length_sets, table_closed, table_taken_lem, table_shut_lem}
use Rattle.history.proofs.Steps.{final_of, extended_panel, armed_panel, step_bad, step_only, step_logged, step_reading, final_logged, armed_logged}
use Rattle.history.proofs.Fits.{Fit, fit_belongs, fit_step}

-- 01: "version u64 = 1, number of entries u64, then agile entries"
abbrev pub table_bytes : ℕ → List ℕ → List ℕ
table_bytes count entries = le 8 1 ++ (le 8 count ++ entries)

-- the used bytes
abbrev pub kept : TableOffered → List ℕ
kept o = take o.table.used o.buffer

-- an entry put behind the used bytes, and the count field set
module _ (buffer s x : List ℕ) (used c d : ℕ) (k : take used buffer ≡ table_bytes c x) (u : used ≡ 16 + length x) (h : used + length s ≤ length buffer) where
  whole : List ℕ
  whole = x ++ (s ++ drop (used + length s) buffer)

  written : sets buffer used s ≡ le 8 1 ++ (le 8 c ++ whole)
  unfolding whole
  written = sets_is buffer s used h ∙ (rw (k, append_assoc, append_assoc))

  counted : sets (sets buffer used s) 8 (le 8 d) ≡ le 8 1 ++ (le 8 d ++ whole)
  counted =
      let long : 8 + length (le 8 d) ≤ length (sets buffer used s) = omega (arith, length_sets buffer s used, length_le 8 d) in
      let e : 8 + length (le 8 d) ≡ 16 = omega (arith, length_le 8 d) in
      let front : take 8 (sets buffer used s) ≡ le 8 1 = rw written (take_at (le 8 1) (le 8 c ++ whole) 8 (length_le 8 1)) in
      let back : drop 16 (sets buffer used s) ≡ whole =
      rw (written, ← append_assoc) (drop_at (le 8 1 ++ le 8 c) whole 16 (rw (length-append, length_le, length_le))) in
      sets_is (sets buffer used s) (le 8 d) 8 long ∙ (rw (e, front, back))

  pub table_grown : take (used + length s) (sets (sets buffer used s) 8 (le 8 d)) ≡ table_bytes d (x ++ s)
  unfolding whole
  table_grown =
      let l : length (le 8 1 ++ (le 8 d ++ (x ++ s))) ≡ used + length s = rw (length-append, length-append, length-append, length_le, length_le) (omega arith) in
      let e : le 8 1 ++ (le 8 d ++ (x ++ (s ++ drop (used + length s) buffer))) ≡ (le 8 1 ++ (le 8 d ++ (x ++ s))) ++ drop (used + length s) buffer = rw (append_assoc, append_assoc, append_assoc) in
      ap (take (used + length s)) (counted ∙ e) ∙ take_at (le 8 1 ++ (le 8 d ++ (x ++ s))) (drop (used + length s) buffer) (used + length s) l

module _ (bytes : Measure → List ℕ) where
  unfoldable pub puts : List Measure → TableOffered → TableOffered
  puts [] o = o
  puts (m ∷ ms) o = puts ms (table_offered (bytes m) o.table o.buffer)

  pub puts_closed : (ms : List Measure) (o : TableOffered) → o.table.closed ≡ true → puts ms o ≡ o
  unfolding puts
  puts_closed [] o h = refl
  puts_closed (m ∷ ms) o h = ap (puts ms) (table_closed (bytes m) o h) ∙ puts_closed ms o h

  -- an open table with entries x, and what it holds after the offers
  pub record Table (cap : ℕ) (x : List ℕ) (o : TableOffered) : Type 0 where
    pub still : o.table.closed ≡ false
    pub long : length o.buffer ≡ cap
    pub holds : kept o ≡ table_bytes o.table.count x
    pub place : o.table.used ≡ 16 + length x

  pub record Tabled (cap : ℕ) (x : List ℕ) (o : TableOffered) (ms : List Measure) (o' : TableOffered) : Type 0 where
    pub counted : o'.table.count ≡ o.table.count + length (fitting bytes cap o.table.used ms)
    pub holds : kept o' ≡ table_bytes o'.table.count (x ++ all_bytes bytes (fitting bytes cap o.table.used ms))
    pub closed : o'.table.closed ≡ cut_off bytes cap o.table.used ms

  turn : (cap : ℕ) (m : Measure) (ms : List Measure) (x : List ℕ) (o : TableOffered) → Table cap x o
      → ((y : List ℕ) (o' : TableOffered) → Table cap y o' → Tabled cap y o' ms (puts ms o'))
      → (b : Bool) → leb (o.table.used + length (bytes m)) cap ≡ b → Tabled cap x o (m ∷ ms) (puts (m ∷ ms) o)
  unfolding puts fitting cut_off all_bytes
  turn cap m ms x o k ih true e =
      let room : o.table.used + length (bytes m) ≤ cap = leb-true _ _ e in
      let r : o.table.used + length (bytes m) ≤ length o.buffer = omega (arith, k.long) in
      let t : TableOffered = table_taken (bytes m) o.table o.buffer in
      let same : table_offered (bytes m) o.table o.buffer ≡ t = table_taken_lem (bytes m) o k.still (rw k.long e) in
      let n : Table cap (x ++ bytes m) t =
      record {
        still = refl;
        long = length_sets (sets o.buffer o.table.used (bytes m)) (le 8 (o.table.count + 1)) 8 ∙ length_sets o.buffer (bytes m) o.table.used ∙ k.long;
        holds = table_grown o.buffer (bytes m) x o.table.used o.table.count (o.table.count + 1) k.holds k.place r;
        place = rw length-append (omega (arith, k.place));
      } in
      let i : Tabled cap (x ++ bytes m) t ms (puts ms t) = ih (x ++ bytes m) t n in
      let j : Tabled cap x o (m ∷ ms) (puts ms t) =
      record { counted = i.counted ∙ (rw e (omega arith)); holds = i.holds ∙ (rw (e, append_assoc)); closed = i.closed ∙ (rw e) } in
      subst (λ (z : TableOffered). Tabled cap x o (m ∷ ms) (puts ms z)) (sym same) j
  turn cap m ms x o k ih false e =
      let same : puts ms (table_offered (bytes m) o.table o.buffer) ≡ table_shut o.table o.buffer =
      ap (puts ms) (table_shut_lem (bytes m) o k.still (rw k.long e)) ∙ puts_closed ms (table_shut o.table o.buffer) refl in
      let j : Tabled cap x o (m ∷ ms) (table_shut o.table o.buffer) =
      record { counted = rw e (sym (add-zero o.table.count)); holds = k.holds ∙ (rw (e, append-nil)); closed = rw e } in
      subst (λ (z : TableOffered). Tabled cap x o (m ∷ ms) z) (sym same) j

  pub puts_open : (cap : ℕ) (ms : List Measure) (x : List ℕ) (o : TableOffered) → Table cap x o → Tabled cap x o ms (puts ms o)
  unfolding puts fitting cut_off all_bytes
  puts_open cap [] x o k = record { counted = sym (add-zero o.table.count); holds = k.holds ∙ (rw append-nil); closed = k.still }
  puts_open cap (m ∷ ms) x o k = turn cap m ms x o k (puts_open cap ms) (leb (o.table.used + length (bytes m)) cap) refl

-- ---- any calls

module _ (bitmap O A T : ℕ) where
  abbrev bytes : Measure → List ℕ
  bytes m = agile_bytes (banks bitmap) (entry_of (banks bitmap) m)

  final_extended : (m : Measure) (p : Panel) → final_of (extended_panel m p) ≡ final_of p
  unfolding spec.extended
  final_extended m p = refl

  armed_extended : (m : Measure) (p : Panel) → (extended_panel m p).state.armed ≡ p.state.armed
  unfolding spec.extended
  armed_extended m p = refl

  final_armed : (b : Bool) (p : Panel) → final_of (armed_panel b p) ≡ final_of p
  final_armed true p = refl
  final_armed false p = refl

  armed_armed : (b : Bool) (p : Panel) → (armed_panel b p).state.armed ≡ (p.state.armed || b)
  armed_armed true p = go p.state.armed
    where
      go : (a : Bool) → true ≡ (a || true)
      go true = refl
      go false = refl
  armed_armed false p = go p.state.armed
    where
      go : (a : Bool) → a ≡ (a || false)
      go true = refl
      go false = refl

  offer_final : (m : Measure) (ms : List Measure) (a : Bool) (p : Panel)
      → puts bytes ms (offer_table_if a (bytes m) p.state.table p.table) ≡ puts bytes (keep_if a m ms) (final_of p)
  unfolding puts
  offer_final m ms true p = refl
  offer_final m ms false p = refl

  -- one request, before calls of which ms is tabled
  ask_final : (flags : ℕ) (message request : List ℕ) (cs : List Call) (p : Panel) → Fit bitmap O A T p → (g o : Bool) → is_good flags message request ≡ g → extend_only flags ≡ o
      → puts bytes (tabled bitmap (step (ask flags message request) p).state.armed cs) (final_of (step (ask flags message request) p))
      ≡ puts bytes (keep_if (p.state.armed && (g && not o)) (measure_of message request) (tabled bitmap p.state.armed cs)) (final_of p)
  ask_final flags message request cs p k false o e f =
      rw (step_bad p (fit_belongs bitmap O A T p k) flags message request e) (go p.state.armed)
    where
      go : (a : Bool) → puts bytes (tabled bitmap p.state.armed cs) (final_of p)
          ≡ puts bytes (keep_if (a && false) (measure_of message request) (tabled bitmap p.state.armed cs)) (final_of p)
      go true = refl
      go false = refl
  ask_final flags message request cs p k true true e f =
      rw (step_only p (fit_belongs bitmap O A T p k) flags message request e f, armed_extended (measure_of message request) p, final_extended (measure_of message request) p) (go p.state.armed)
    where
      go : (a : Bool) → puts bytes (tabled bitmap p.state.armed cs) (final_of p)
          ≡ puts bytes (keep_if (a && false) (measure_of message request) (tabled bitmap p.state.armed cs)) (final_of p)
      go true = refl
      go false = refl
  ask_final flags message request cs p k true false e f =
      rw (step_logged p (fit_belongs bitmap O A T p k) flags message request e f, armed_logged (measure_of message request) p, final_logged (measure_of message request) p, k.bitmap_is)
      (offer_final (measure_of message request) (tabled bitmap p.state.armed cs) p.state.armed p ∙ go p.state.armed)
    where
      go : (a : Bool) → puts bytes (keep_if a (measure_of message request) (tabled bitmap p.state.armed cs)) (final_of p)
          ≡ puts bytes (keep_if (a && true) (measure_of message request) (tabled bitmap p.state.armed cs)) (final_of p)
      go true = refl
      go false = refl

  pub run_final : (cs : List Call) (p : Panel) → Fit bitmap O A T p → final_of (run cs p) ≡ puts bytes (tabled bitmap p.state.armed cs) (final_of p)
  unfolding run tabled puts
  run_final [] p k = refl
  run_final (ask flags message request ∷ cs) p k =
      run_final cs (step (ask flags message request) p) (fit_step bitmap O A T (ask flags message request) p k)
      ∙ ask_final flags message request cs p k (is_good flags message request) (extend_only flags) refl refl
  run_final (reading format ∷ cs) p k =
      run_final cs (step (reading format) p) (fit_step bitmap O A T (reading format) p k)
      ∙ (rw (step_reading p (fit_belongs bitmap O A T p k) format, final_armed (arms p.state.bitmap format) p, armed_armed (arms p.state.bitmap format) p, k.bitmap_is))
