-- What holds of the panel after a successful opening and after every call: the state belongs to its buffers, and the table's count stays below its
-- limit. Assumes nothing.
use Rattle.std.proofs.Common.{Bool, true, false, ◌||◌, List, [], ◌∷◌, ◌≡◌, refl, ap, ◌∙◌, ℕ, ◌+◌, ◌*◌, ◌≤◌, ◌<◌, arith, leb-true, le-leb, lt-ltb, leb, eqb, length}
use Rattle.std.proofs.Math.Seq.{sets}
use Rattle.wire.specs.Bytes.{le}
use Rattle.bank.specs.Bank.{valid, banks, active, sha1_bank}
use Rattle.bank.proofs.Laws.{Every, every_banks, banks_1}
use Rattle.entry.specs.Entry.{log_limit, old_bytes, agile_bytes, old_length, agile_length}
use Rattle.entry.specs.Header.{header_length}
use Rattle.entry.proofs.Laws.{length_old, length_agile, fits_hashes, digests_least}
use Rattle.store.specs.Store.{count_limit, Offered, offered, TableOffered, table_offered, offer_if, offer_table_if}
use Rattle.service.specs.State.{belongs, last_fits}
use Rattle.request.specs.Request.{extend_only}
use Rattle.request.specs.Request as spec
use Rattle.history.specs.History.{Call, ask, reading, Panel, step, run, Measure, measure_of, entry_of, is_good, arms}
use Rattle.history.proofs.Stores.{length_sets, offer_closed, offer_taken, offer_shut, table_closed, table_taken_lem, table_shut_lem}
use Rattle.history.proofs.Steps.{Belongs, old_of, agile_of, final_of, extended_panel, logged_panel, armed_panel, step_bad, step_only, step_logged, step_reading, old_logged, agile_logged, final_logged, bitmap_logged}

-- ---- the lengths of entries

pub agile_least : (bitmap : ℕ) (m : Measure) → valid bitmap ≡ true → 38 ≤ length (agile_bytes (banks bitmap) (entry_of (banks bitmap) m))
agile_least bitmap m h =
    let e = length_agile (banks bitmap) (entry_of (banks bitmap) m) (fits_hashes (banks bitmap) m.message (every_banks bitmap)) in
    rw e (unfold agile_length in (omega (arith, digests_least bitmap h)))

every_sha1 : Every (sha1_bank ∷ [])
every_sha1 = rw banks_1 at (every_banks 1)

pub old_least : (m : Measure) → 32 ≤ length (old_bytes (entry_of (sha1_bank ∷ []) m))
old_least m =
    let e = length_old (entry_of (sha1_bank ∷ []) m) (fits_hashes (sha1_bank ∷ []) m.message every_sha1) in
    rw e (unfold old_length in (omega arith))

-- ---- a log and the table, in buffers of n bytes

pub record LogFit (n : ℕ) (o : Offered) : Type 0 where
  pub within : o.store.used ≤ n
  pub long : length o.buffer ≡ n
  pub last : last_fits o.store.last o.store.used ≡ true

log_offered : (n : ℕ) (bytes : List ℕ) (o : Offered) → 0 < length bytes → LogFit n o → (c b : Bool) → o.store.closed ≡ c
    → leb (o.store.used + length bytes) (length o.buffer) ≡ b → LogFit n (offered bytes o.store o.buffer) × (o.store.used ≤ (offered bytes o.store o.buffer).store.used)
log_offered n bytes o l k true b e f = rw (offer_closed bytes o e) (k, omega arith)
log_offered n bytes o l k false true e f =
    let r : o.store.used + length bytes ≤ length o.buffer = leb-true _ _ f in
    rw (offer_taken bytes o e f) (
      record { within = omega (arith, k.long); long = length_sets o.buffer bytes o.store.used ∙ k.long; last = lt-ltb o.store.used (o.store.used + length bytes) (omega arith) },
      omega arith,
    )
log_offered n bytes o l k false false e f = rw (offer_shut bytes o e f) (record { within = k.within; long = k.long; last = k.last }, omega arith)

pub log_kept : (n : ℕ) (bytes : List ℕ) (o : Offered) → 0 < length bytes → LogFit n o
    → LogFit n (offered bytes o.store o.buffer) × (o.store.used ≤ (offered bytes o.store o.buffer).store.used)
log_kept n bytes o l k = log_offered n bytes o l k o.store.closed (leb (o.store.used + length bytes) (length o.buffer)) refl refl

pub record TableFit (n : ℕ) (o : TableOffered) : Type 0 where
  pub within : o.table.used ≤ n
  pub long : length o.buffer ≡ n
  pub counted : 16 + 38 * o.table.count ≤ o.table.used

table_offered_lem : (n : ℕ) (bytes : List ℕ) (o : TableOffered) → 38 ≤ length bytes → TableFit n o → (c b : Bool) → o.table.closed ≡ c
    → leb (o.table.used + length bytes) (length o.buffer) ≡ b → TableFit n (table_offered bytes o.table o.buffer)
table_offered_lem n bytes o l k true b e f = rw (table_closed bytes o e) k
table_offered_lem n bytes o l k false true e f =
    let r : o.table.used + length bytes ≤ length o.buffer = leb-true _ _ f in
    rw (table_taken_lem bytes o e f)
    (record {
      within = omega (arith, k.long);
      long = length_sets (sets o.buffer o.table.used bytes) (le 8 (o.table.count + 1)) 8 ∙ length_sets o.buffer bytes o.table.used ∙ k.long;
      counted = omega (arith, k.counted);
    })
table_offered_lem n bytes o l k false false e f = rw (table_shut_lem bytes o e f) (record { within = k.within; long = k.long; counted = k.counted })

pub table_kept : (n : ℕ) (bytes : List ℕ) (o : TableOffered) → 38 ≤ length bytes → TableFit n o → TableFit n (table_offered bytes o.table o.buffer)
table_kept n bytes o l k = table_offered_lem n bytes o l k o.table.closed (leb (o.table.used + length bytes) (length o.buffer)) refl refl

-- ---- the panel, opened with a bitmap and buffers of these lengths

module _ (bitmap O A T : ℕ) where
  pub record Fit (p : Panel) : Type 0 where
    pub bitmap_is : p.state.bitmap ≡ bitmap
    pub good : valid bitmap ≡ true
    pub old_short : O ≤ log_limit
    pub agile_short : A ≤ log_limit
    pub table_short : T ≤ log_limit
    pub old : LogFit O (old_of p)
    pub agile : LogFit A (agile_of p)
    pub table : TableFit T (final_of p)
    pub old_none : (active bitmap sha1_bank || eqb p.state.old.used 0) ≡ true
    pub agile_head : header_length (banks bitmap) ≤ p.state.agile.used

  -- a table of at most 65,536 bytes holds at most 1,724 entries
  pub few : (p : Panel) → Fit p → p.state.table.count ≤ 1724
  unfolding log_limit
  few p k = omega (arith, k.table.counted, k.table.within, k.table_short)

  pub fit_belongs : (p : Panel) → Fit p → Belongs p
  unfolding belongs
  fit_belongs p k =
      let c : p.state.table.count ≤ count_limit = unfold count_limit in (omega (arith, few p k)) in
      let u : 16 ≤ p.state.table.used = omega (arith, k.table.counted) in
      rw (
        k.bitmap_is,
        k.good,
        k.old.long,
        k.agile.long,
        k.table.long,
        le-leb O log_limit k.old_short,
        le-leb A log_limit k.agile_short,
        le-leb T log_limit k.table_short,
        le-leb _ O k.old.within,
        le-leb _ A k.agile.within,
        le-leb _ T k.table.within,
        le-leb _ _ k.agile_head,
        le-leb 16 _ u,
        k.old_none,
        k.old.last,
        k.agile.last,
        le-leb _ _ c,
      )

  -- ---- every call keeps it

  fit_extended : (m : Measure) (p : Panel) → Fit p → Fit (extended_panel m p)
  unfolding spec.extended
  fit_extended m p k =
      record {
        bitmap_is = k.bitmap_is;
        good = k.good;
        old_short = k.old_short;
        agile_short = k.agile_short;
        table_short = k.table_short;
        old = k.old;
        agile = k.agile;
        table = k.table;
        old_none = k.old_none;
        agile_head = k.agile_head;
      }

  fit_armed : (b : Bool) (p : Panel) → Fit p → Fit (armed_panel b p)
  fit_armed true p k =
      record {
        bitmap_is = k.bitmap_is;
        good = k.good;
        old_short = k.old_short;
        agile_short = k.agile_short;
        table_short = k.table_short;
        old = k.old;
        agile = k.agile;
        table = k.table;
        old_none = k.old_none;
        agile_head = k.agile_head;
      }
  fit_armed false p k = k

  old_kept : (m : Measure) (p : Panel) → Fit p → (b : Bool) → LogFit O (offer_if b (old_bytes (entry_of (sha1_bank ∷ []) m)) p.state.old p.old)
  old_kept m p k true = (log_kept O (old_bytes (entry_of (sha1_bank ∷ []) m)) (old_of p) (omega (arith, old_least m)) k.old).0
  old_kept m p k false = k.old

  none_kept : (m : Measure) (p : Panel) → Fit p → (b : Bool) → active bitmap sha1_bank ≡ b
      → (b || eqb (offer_if b (old_bytes (entry_of (sha1_bank ∷ []) m)) p.state.old p.old).store.used 0) ≡ true
  none_kept m p k true e = refl
  none_kept m p k false e = rw e at k.old_none

  final_kept : (m : Measure) (p : Panel) → Fit p → (b : Bool)
      → TableFit T (offer_table_if b (agile_bytes (banks bitmap) (entry_of (banks bitmap) m)) p.state.table p.table)
  final_kept m p k true = table_kept T _ (final_of p) (agile_least bitmap m k.good) k.table
  final_kept m p k false = k.table

  fit_logged : (m : Measure) (p : Panel) → Fit p → Fit (logged_panel m p)
  fit_logged m p k =
      let a = log_kept A (agile_bytes (banks bitmap) (entry_of (banks bitmap) m)) (agile_of p) (omega (arith, agile_least bitmap m k.good)) k.agile in
      let o : LogFit O (old_of (logged_panel m p)) = rw (old_logged m p) (old_kept m p k (active p.state.bitmap sha1_bank)) in
      let e : agile_of (logged_panel m p) ≡ offered (agile_bytes (banks bitmap) (entry_of (banks bitmap) m)) p.state.agile p.agile = agile_logged m p ∙ (rw k.bitmap_is) in
      let f : final_of (logged_panel m p) ≡ offer_table_if p.state.armed (agile_bytes (banks bitmap) (entry_of (banks bitmap) m)) p.state.table p.table = final_logged m p ∙ (rw k.bitmap_is) in
      let n : old_of (logged_panel m p) ≡ offer_if (active bitmap sha1_bank) (old_bytes (entry_of (sha1_bank ∷ []) m)) p.state.old p.old = old_logged m p ∙ (rw k.bitmap_is) in
      record {
        bitmap_is = bitmap_logged m p ∙ k.bitmap_is;
        good = k.good;
        old_short = k.old_short;
        agile_short = k.agile_short;
        table_short = k.table_short;
        old = o;
        agile = rw e a.0;
        table = rw f (final_kept m p k p.state.armed);
        old_none = ap (λ (x : Offered). active bitmap sha1_bank || eqb x.store.used 0) n ∙ none_kept m p k (active bitmap sha1_bank) refl;
        agile_head =
            let g : header_length (banks bitmap) ≤ (agile_of (logged_panel m p)).store.used = rw e (omega (arith, a.1, k.agile_head)) in
            g;
      }

  fit_ask : (flags : ℕ) (message request : List ℕ) (p : Panel) → Fit p → (g o : Bool) → is_good flags message request ≡ g → extend_only flags ≡ o
      → Fit (step (ask flags message request) p)
  fit_ask flags message request p k false o e f = rw (step_bad p (fit_belongs p k) flags message request e) k
  fit_ask flags message request p k true true e f = rw (step_only p (fit_belongs p k) flags message request e f) (fit_extended (measure_of message request) p k)
  fit_ask flags message request p k true false e f = rw (step_logged p (fit_belongs p k) flags message request e f) (fit_logged (measure_of message request) p k)

  pub fit_step : (c : Call) (p : Panel) → Fit p → Fit (step c p)
  fit_step (ask flags message request) p k = fit_ask flags message request p k (is_good flags message request) (extend_only flags) refl refl
  fit_step (reading format) p k = rw (step_reading p (fit_belongs p k) format) (fit_armed (arms p.state.bitmap format) p k)

  pub fit_run : (cs : List Call) (p : Panel) → Fit p → Fit (run cs p)
  unfolding run
  fit_run [] p k = k
  fit_run (c ∷ cs) p k = fit_run cs (step c p) (fit_step c p k)
