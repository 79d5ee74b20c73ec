-- After a successful opening and any calls: no call answers 7, the logs' used bytes are what was recorded, the table's are what was tabled, and the
-- registers are what all accepted requests make of the reset values. Assumes nothing.
use Rattle.std.proofs.Common.{Bool, true, false, ◌||◌, List, [], ◌++◌, append-nil, ◌≡◌, refl, sym, ap, subst, ◌∙◌, ℕ, ◌+◌, ◌≤◌, zero-add, arith, leb-true, lt-ltb, leb, length, take, length-append, length-take, take_at, take-take, length-take-le}
use Rattle.std.proofs.Math.Seq.{sets}
use Rattle.wire.specs.Bytes.{le}
use Rattle.wire.proofs.Laws.{length_le}
use Rattle.wire.proofs.Tests.{both}
use Rattle.bank.specs.Bank.{valid, banks, active, sha1_bank}
use Rattle.entry.specs.Entry.{log_limit, agile_bytes}
use Rattle.entry.specs.Form.{old, agile}
use Rattle.entry.specs.Header.{header_bytes, header_length}
use Rattle.entry.proofs.Laws.{length_header}
use Rattle.store.specs.Store.{Offered, TableOffered}
use Rattle.service.specs.Opening.{opening_of, opened, fresh, table_front, in_limits, roomy}
use Rattle.service.proofs.Openings.{opening_0, opened_0}
use Rattle.service.proofs.Readings as readings
use Rattle.request.proofs.Requests as requests
use Rattle.history.specs.History.{Call, ask, reading, Panel, panel_of, status_of, run, opening, Measure, entry_of, bytes_in, accepted, logged, tabled, fitting, cut_off, all_bytes, recorded, in_table, extend_by, made}
use Rattle.history.proofs.Stores.{grown, puts, puts_closed, puts_open, Stored}
use Rattle.history.proofs.Stores as stores
use Rattle.history.proofs.Steps.{old_of, agile_of, final_of}
use Rattle.history.proofs.Fits.{Fit, fit_belongs, fit_run, few}
use Rattle.history.proofs.Runs.{run_append, run_agile, run_old, run_no_old, run_registers}
use Rattle.history.proofs.Tables.{run_final}
use Rattle.history.proofs.Tables as tables

-- ---- no call answers 7

pub never_7 : (bitmap O A T : ℕ) (p : Panel) → Fit bitmap O A T p → (c : Call) → status_of c p ≡ 7 → ⊥
unfolding status_of
never_7 bitmap O A T p k (ask flags message request) h =
    let b : true ≡ false = sym (fit_belongs bitmap O A T p k) ∙ (requests.exactly_7 p.state flags message request p.old p.agile p.table).0 h in
    let z : ◌≡◌ {A = ℕ} 0 1 = cc in
    omega arith
never_7 bitmap O A T p k (reading format) h =
    let b : true ≡ false = sym (fit_belongs bitmap O A T p k) ∙ (readings.exactly_7 p.state format (length p.old) (length p.agile) (length p.table)).0 h in
    let z : ◌≡◌ {A = ℕ} 0 1 = cc in
    omega arith

-- ---- what stood in a log still stands there

-- a log that was offered some entries has more used bytes or the same
grows : (bytes : Measure → List ℕ) (ms : List Measure) (o : Offered) → o.store.used ≤ length o.buffer → (b : Bool) → o.store.closed ≡ b
    → take o.store.used (puts bytes ms o).buffer ≡ stores.kept o
grows bytes ms o u true e = ap (λ (x : Offered). take o.store.used x.buffer) (puts_closed bytes ms o e)
grows bytes ms o u false e =
    let s = puts_open bytes (length o.buffer) ms o e refl u in
    let x : List ℕ = all_bytes bytes (fitting bytes (length o.buffer) o.store.used ms) in
    let p : Offered = puts bytes ms o in
    let l : length (stores.kept o) ≡ o.store.used = length-take-le o.store.used o.buffer u in
    let n : length (stores.kept p) ≡ length (stores.kept o) + length x = ap length s.bytes_are ∙ length-append (stores.kept o) x in
    let m : o.store.used ≤ p.store.used = omega (arith, length-take p.store.used p.buffer) in
    sym (take-take o.store.used p.store.used p.buffer m)
    ∙ ap (take o.store.used) s.bytes_are
    ∙ take_at (stores.kept o) x o.store.used l

-- ---- after an opening that succeeded

module _ (bitmap : ℕ) (lentOld lentAgile lentTable : List ℕ) (ok : (opening_of bitmap lentOld lentAgile lentTable).status ≡ 0) where
  abbrev begun : Panel
  begun = opening bitmap lentOld lentAgile lentTable

  is_opened : begun ≡ panel_of (opened bitmap lentOld lentAgile lentTable)
  unfolding opening
  is_opened = ap panel_of (opened_0 bitmap lentOld lentAgile lentTable ok)

  limits : (valid bitmap ≡ true) × (length lentOld ≤ log_limit) × (length lentAgile ≤ log_limit) × (length lentTable ≤ log_limit)
  unfolding in_limits
  limits =
      let h = ((opening_0 bitmap lentOld lentAgile lentTable).0 ok).0 in
      let a = both (valid bitmap) _ h in
      let b = both (leb (length lentOld) log_limit) _ a.1 in
      let c = both (leb (length lentAgile) log_limit) (leb (length lentTable) log_limit) b.1 in
      (a.0, leb-true _ _ b.0, leb-true _ _ c.0, leb-true _ _ c.1)

  rooms : (header_length (banks bitmap) ≤ length lentAgile) × (16 ≤ length lentTable)
  unfolding roomy
  rooms =
      let h = ((opening_0 bitmap lentOld lentAgile lentTable).0 ok).1 in
      let a = both (leb (header_length (banks bitmap)) (length lentAgile)) (leb 16 (length lentTable)) h in
      (leb-true _ _ a.0, leb-true _ _ a.1)

  or_true : (a : Bool) → (a || true) ≡ true
  or_true true = refl
  or_true false = refl

  fit_opened : Fit bitmap (length lentOld) (length lentAgile) (length lentTable) (panel_of (opened bitmap lentOld lentAgile lentTable))
  unfolding fresh
  fit_opened =
      record {
        bitmap_is = refl;
        good = limits.0;
        old_short = limits.1;
        agile_short = limits.2;
        table_short = limits.3;
        old = record { within = omega arith; long = refl; last = refl };
        agile =
            record {
              within = rooms.0;
              long = stores.length_sets lentAgile (header_bytes (banks bitmap)) 0;
              last = lt-ltb 0 (header_length (banks bitmap)) (unfold header_length in (omega arith));
            };
        table = record { within = rooms.1; long = stores.length_sets lentTable table_front 0; counted = omega arith };
        old_none = or_true (active bitmap sha1_bank);
        agile_head = omega arith;
      }

  pub fit_opening : Fit bitmap (length lentOld) (length lentAgile) (length lentTable) begun
  fit_opening = rw is_opened fit_opened

  -- 0. every state in the run belongs, no call answers 7, and the table's count stays at most 1,724
  pub fit_after : (cs : List Call) → Fit bitmap (length lentOld) (length lentAgile) (length lentTable) (run cs begun)
  fit_after cs = fit_run bitmap (length lentOld) (length lentAgile) (length lentTable) cs begun fit_opening

  pub no_7 : (cs : List Call) (c : Call) → status_of c (run cs begun) ≡ 7 → ⊥
  no_7 cs c = never_7 bitmap (length lentOld) (length lentAgile) (length lentTable) (run cs begun) (fit_after cs) c

  pub count_low : (cs : List Call) → (run cs begun).state.table.count ≤ 1724
  count_low cs = few bitmap (length lentOld) (length lentAgile) (length lentTable) (run cs begun) (fit_after cs)

  -- 3. the registers
  pub registers_are : (cs : List Call) → (run cs begun).state.registers.bytes ≡ made (banks bitmap) (accepted cs)
  unfolding made
  registers_are cs =
      run_registers bitmap (length lentOld) (length lentAgile) (length lentTable) cs begun fit_opening
      ∙ ap (λ (p : Panel). extend_by (banks bitmap) (accepted cs) p.state.registers.bytes) is_opened
      ∙ (unfold fresh in refl)

  -- 1. the agile log
  agile_start : agile_of begun ≡ agile_of (panel_of (opened bitmap lentOld lentAgile lentTable))
  agile_start = ap agile_of is_opened

  agile_stored : (cs : List Call) → Stored (bytes_in (agile (banks bitmap))) (length lentAgile) (agile_of (panel_of (opened bitmap lentOld lentAgile lentTable))) (logged cs) (agile_of (run cs begun))
  agile_stored cs =
      subst (λ (o : Offered). Stored (bytes_in (agile (banks bitmap))) (length lentAgile) (agile_of (panel_of (opened bitmap lentOld lentAgile lentTable))) (logged cs) o)
      (sym (run_agile bitmap (length lentOld) (length lentAgile) (length lentTable) cs begun fit_opening ∙ ap (puts (bytes_in (agile (banks bitmap))) (logged cs)) agile_start))
      (puts_open (bytes_in (agile (banks bitmap))) (length lentAgile) (logged cs) (agile_of (panel_of (opened bitmap lentOld lentAgile lentTable))) (unfold fresh in refl)
      fit_opened.agile.long fit_opened.agile.within)

  -- 1. the used bytes of the agile log are its header and the entries recorded, and it is closed exactly if one of those logged is not among them
  pub agile_bytes_lem : (cs : List Call) → take (run cs begun).state.agile.used (run cs begun).agile
      ≡ (agile (banks bitmap)).head ++ all_bytes (bytes_in (agile (banks bitmap))) (recorded (agile (banks bitmap)) (length lentAgile) cs)
  unfolding agile recorded fresh
  agile_bytes_lem cs =
      let l : header_length (banks bitmap) ≡ length (header_bytes (banks bitmap)) = sym (length_header (banks bitmap)) in
      let front : take (header_length (banks bitmap)) (sets lentAgile 0 (header_bytes (banks bitmap))) ≡ header_bytes (banks bitmap) =
      rw (l, ← zero-add (length (header_bytes (banks bitmap)))) (grown lentAgile (header_bytes (banks bitmap)) 0 (omega (arith, rooms.0))) in
      (agile_stored cs).bytes_are ∙ (rw (front, l))

  pub agile_closed : (cs : List Call) → (run cs begun).state.agile.closed ≡ cut_off (bytes_in (agile (banks bitmap))) (length lentAgile) (length (agile (banks bitmap)).head) (logged cs)
  unfolding agile fresh
  agile_closed cs = (agile_stored cs).closed_is ∙ (rw (length_header (banks bitmap)))

  -- 1. the same of the 1.2 log, where SHA-1 is active
  module _ (a : active bitmap sha1_bank ≡ true) where
    old_stored : (cs : List Call) → Stored (bytes_in old) (length lentOld) (old_of (panel_of (opened bitmap lentOld lentAgile lentTable))) (logged cs) (old_of (run cs begun))
    old_stored cs =
        subst (λ (o : Offered). Stored (bytes_in old) (length lentOld) (old_of (panel_of (opened bitmap lentOld lentAgile lentTable))) (logged cs) o)
        (sym (run_old bitmap (length lentOld) (length lentAgile) (length lentTable) a cs begun fit_opening ∙ ap (λ (p : Panel). puts (bytes_in old) (logged cs) (old_of p)) is_opened))
        (puts_open (bytes_in old) (length lentOld) (logged cs) (old_of (panel_of (opened bitmap lentOld lentAgile lentTable))) (unfold fresh in refl)
        fit_opened.old.long fit_opened.old.within)

    pub old_bytes_lem : (cs : List Call) → take (run cs begun).state.old.used (run cs begun).old ≡ old.head ++ all_bytes (bytes_in old) (recorded old (length lentOld) cs)
    unfolding old recorded fresh
    old_bytes_lem cs = (old_stored cs).bytes_are

    pub old_closed : (cs : List Call) → (run cs begun).state.old.closed ≡ cut_off (bytes_in old) (length lentOld) (length old.head) (logged cs)
    unfolding old fresh
    old_closed cs = (old_stored cs).closed_is

  -- 1. where it isn't, no byte of the 1.2 buffer changes
  pub old_unwritten : active bitmap sha1_bank ≡ false → (cs : List Call) → ((run cs begun).state.old.used ≡ 0) × ((run cs begun).old ≡ lentOld)
  unfolding fresh
  old_unwritten a cs =
      let e : old_of (run cs begun) ≡ old_of (panel_of (opened bitmap lentOld lentAgile lentTable)) =
      run_no_old bitmap (length lentOld) (length lentAgile) (length lentTable) a cs begun fit_opening ∙ ap old_of is_opened in
      (ap (λ (o : Offered). o.store.used) e, ap (λ (o : Offered). o.buffer) e)

  -- 5. what stood in a log's used bytes after some of the calls still stands there after all of them
  pub agile_stays : (cs ds : List Call) → take (run cs begun).state.agile.used (run (cs ++ ds) begun).agile ≡ take (run cs begun).state.agile.used (run cs begun).agile
  agile_stays cs ds =
      let k = fit_after cs in
      let e : agile_of (run (cs ++ ds) begun) ≡ puts (bytes_in (agile (banks bitmap))) (logged ds) (agile_of (run cs begun)) =
      ap agile_of (run_append cs ds begun) ∙ run_agile bitmap (length lentOld) (length lentAgile) (length lentTable) ds (run cs begun) k in
      ap (λ (o : Offered). take (run cs begun).state.agile.used o.buffer) e
      ∙ grows (bytes_in (agile (banks bitmap))) (logged ds) (agile_of (run cs begun)) (omega (arith, k.agile.within, k.agile.long)) (run cs begun).state.agile.closed refl

  pub old_stays : (cs ds : List Call) → take (run cs begun).state.old.used (run (cs ++ ds) begun).old ≡ take (run cs begun).state.old.used (run cs begun).old
  old_stays cs ds = go (active bitmap sha1_bank) refl
    where
      go : (b : Bool) → active bitmap sha1_bank ≡ b
          → take (run cs begun).state.old.used (run (cs ++ ds) begun).old ≡ take (run cs begun).state.old.used (run cs begun).old
      go true a =
          let k = fit_after cs in
          let e : old_of (run (cs ++ ds) begun) ≡ puts (bytes_in old) (logged ds) (old_of (run cs begun)) =
          ap old_of (run_append cs ds begun) ∙ run_old bitmap (length lentOld) (length lentAgile) (length lentTable) a ds (run cs begun) k in
          ap (λ (o : Offered). take (run cs begun).state.old.used o.buffer) e
          ∙ grows (bytes_in old) (logged ds) (old_of (run cs begun)) (omega (arith, k.old.within, k.old.long)) (run cs begun).state.old.closed refl
      go false a =
          ap (λ (b : List ℕ). take (run cs begun).state.old.used b) ((old_unwritten a (cs ++ ds)).1 ∙ sym (old_unwritten a cs).1)

  -- 6. the table: version, count, and the entries offered since it was armed, before the first without room
  abbrev table_entry : Measure → List ℕ
  table_entry m = agile_bytes (banks bitmap) (entry_of (banks bitmap) m)

  table_start : tables.Table table_entry (length lentTable) [] (final_of (panel_of (opened bitmap lentOld lentAgile lentTable)))
  unfolding fresh table_front
  table_start =
      record {
        still = refl;
        long = stores.length_sets lentTable (le 8 1 ++ le 8 0) 0;
        holds =
            let l : length (le 8 1 ++ le 8 0) ≡ 16 = rw (length-append, length_le, length_le) in
            let g : take (0 + length (le 8 1 ++ le 8 0)) (sets lentTable 0 (le 8 1 ++ le 8 0)) ≡ le 8 1 ++ le 8 0 = grown lentTable (le 8 1 ++ le 8 0) 0 (omega (arith, rooms.1)) in
            (rw (zero-add, l) at g) ∙ (rw append-nil);
        place = refl;
      }

  table_stored : (cs : List Call) → tables.Tabled table_entry (length lentTable) [] (final_of (panel_of (opened bitmap lentOld lentAgile lentTable))) (tabled bitmap false cs) (final_of (run cs begun))
  table_stored cs =
      let e : tables.puts table_entry (tabled bitmap (panel_of (opened bitmap lentOld lentAgile lentTable)).state.armed cs) (final_of (panel_of (opened bitmap lentOld lentAgile lentTable)))
      ≡ tables.puts table_entry (tabled bitmap false cs) (final_of (panel_of (opened bitmap lentOld lentAgile lentTable))) = unfold fresh in refl in
      subst (λ (o : TableOffered). tables.Tabled table_entry (length lentTable) [] (final_of (panel_of (opened bitmap lentOld lentAgile lentTable))) (tabled bitmap false cs) o)
      (sym (run_final bitmap (length lentOld) (length lentAgile) (length lentTable) cs begun fit_opening
      ∙ ap (λ (p : Panel). tables.puts table_entry (tabled bitmap p.state.armed cs) (final_of p)) is_opened ∙ e))
      (tables.puts_open table_entry (length lentTable) (tabled bitmap false cs) [] (final_of (panel_of (opened bitmap lentOld lentAgile lentTable))) table_start)

  pub table_bytes_lem : (cs : List Call) → take (run cs begun).state.table.used (run cs begun).table
      ≡ le 8 1 ++ (le 8 (run cs begun).state.table.count ++ all_bytes (bytes_in (agile (banks bitmap))) (in_table bitmap (length lentTable) cs))
  unfolding agile in_table fresh
  table_bytes_lem cs = (table_stored cs).holds

  pub table_count : (cs : List Call) → (run cs begun).state.table.count ≡ length (in_table bitmap (length lentTable) cs)
  unfolding agile in_table fresh
  table_count cs = (table_stored cs).counted ∙ zero-add (length (fitting table_entry (length lentTable) 16 (tabled bitmap false cs)))

  pub table_closed : (cs : List Call) → (run cs begun).state.table.closed ≡ cut_off (bytes_in (agile (banks bitmap))) (length lentTable) 16 (tabled bitmap false cs)
  unfolding agile fresh
  table_closed cs = (table_stored cs).closed
