-- Demand 3: after a successful opening, for any sequence of requests and readings, refused ones too, replaying a kept log gives what its recorded
-- measurements make of the reset values in the banks it covers; and where none was extend-only and a last reading reports the log not cut off, it gives
-- those banks themselves, however it is sliced. Assumes nothing.
use Rattle.std.proofs.Common.{true, false, cond, List, [], ◌∷◌, ◌++◌, ◌≡◌, refl, sym, ap, ◌∙◌, ℕ, ◌≤◌, ◌<◌, arith, ◌⊎◌, inl, inr, le-leb, eqb, length, take, length-take}
use Rattle.bank.specs.Bank.{Bank, banks, active, sha1_bank, sha256_bank}
use Rattle.bank.specs.Registers.{reset_all}
use Rattle.bank.proofs.Laws.{Every, every_banks, few_banks, banks_1, valid_cases}
use Rattle.entry.specs.Entry.{log_limit}
use Rattle.entry.specs.Form.{Form, old, agile}
use Rattle.entry.specs.Header.{header_bytes, header_length, find}
use Rattle.entry.specs.Read.{got}
use Rattle.entry.proofs.Codec.{sound_old, sound_agile}
use Rattle.entry.proofs.Header.{header_found}
use Rattle.entry.proofs.Laws.{length_header}
use Rattle.service.specs.Opening.{opening_of}
use Rattle.service.specs.Reading.{reading_of}
use Rattle.replay_walk.specs.Walk.{sum}
use Rattle.replay_walk.specs.Taken.{form_of}
use Rattle.replay.specs.Replay.{BeginOutcome, SliceOutcome, begun, not_begun, fresh, begin_of, is_given}
use Rattle.history.specs.History.{Call, Panel, run, opening, Measure, entry_of, bytes_in, plain, accepted, logged, cut_off, all_bytes, recorded, made}
use Rattle.history.specs.Replayed.{replayed}
use Rattle.history.proofs.Fits.{Fit, agile_least, old_least, fit_belongs}
use Rattle.history.proofs.Stores.{fitting_all}
use Rattle.history.proofs.Runs.{logged_all}
use Rattle.history.proofs.Kept.{fit_after, registers_are, agile_bytes_lem, agile_closed, old_bytes_lem, old_closed}
use Rattle.history.proofs.Good.{AllBytes, GoodMeasure, All, accepted_good, logged_good, fitting_good, well}
use Rattle.history.proofs.Replays.{replay_rest}
use Rattle.history.proofs.Banks.{Agree, agree_sha1, sha1_reset, sha256_reset}

-- what is recorded is good
recorded_good : (f : Form) (cap : ℕ) (cs : List Call) → AllBytes cs → All GoodMeasure (recorded f cap cs)
unfolding recorded
recorded_good f cap cs b = fitting_good (bytes_in f) cap (length f.head) (logged cs) (logged_good cs b)

-- where none was extend-only and none found no room, what is recorded is what is accepted
recorded_all : (f : Form) (cap : ℕ) (cs : List Call) → plain cs ≡ true → cut_off (bytes_in f) cap (length f.head) (logged cs) ≡ false → recorded f cap cs ≡ accepted cs
unfolding recorded
recorded_all f cap cs p c = fitting_all (bytes_in f) cap (length f.head) (logged cs) c ∙ logged_all cs p

-- a replay that took all that was recorded: no refusal, done, and the registers are what those measurements make of the reset values
abbrev pub whole : ℕ → ℕ → List Bank → List Measure → List ℕ → SliceOutcome
whole format bitmap bs ms log =
    record {
      number = 0;
      offset = 0;
      taken = length ms;
      done = true;
      replay = record { format = format; banks = bitmap; place = length log; registers = record { bytes = made bs ms } };
    }

module _ (bitmap : ℕ) (lentOld lentAgile lentTable : List ℕ) (ok : (opening_of bitmap lentOld lentAgile lentTable).status ≡ 0) (cs : List Call) (bytes : AllBytes cs) where
  abbrev pub after : Panel
  after = run cs (opening bitmap lentOld lentAgile lentTable)

  abbrev fit : Fit bitmap (length lentOld) (length lentAgile) (length lentTable) after
  fit = fit_after bitmap lentOld lentAgile lentTable ok cs

  -- 3. the registers of a bank that isn't active stay reset
  pub sha1_stays : active bitmap sha1_bank ≡ false → Agree sha1_bank after.state.registers.bytes reset_all
  sha1_stays a = rw (registers_are bitmap lentOld lentAgile lentTable ok cs) (sha1_reset bitmap (accepted cs) fit.good a (accepted_good cs bytes))

  pub sha256_stays : active bitmap sha256_bank ≡ false → Agree sha256_bank after.state.registers.bytes reset_all
  sha256_stays a = rw (registers_are bitmap lentOld lentAgile lentTable ok cs) (sha256_reset bitmap (accepted cs) fit.good a (accepted_good cs bytes))

  -- ---- the agile log

  -- its used bytes
  abbrev pub agile_log : List ℕ
  agile_log = take after.state.agile.used after.agile

  abbrev pub agile_recorded : List Measure
  agile_recorded = recorded (agile (banks bitmap)) (length lentAgile) cs

  agile_short_lem : length agile_log ≤ log_limit
  agile_short_lem = omega (arith, length-take after.state.agile.used after.agile, fit.agile.within, fit.agile_short)

  found : find 3 agile_log ≡ bitmap
  found = rw (agile_bytes_lem bitmap lentOld lentAgile lentTable ok cs) (unfold agile in (go (valid_cases bitmap fit.good)))
    where
      go : (bitmap ≡ 1) ⊎ ((bitmap ≡ 2) ⊎ (bitmap ≡ 3)) → find 3 (header_bytes (banks bitmap) ++ all_bytes (bytes_in (agile (banks bitmap))) agile_recorded) ≡ bitmap
      go (inl e) = rw e (header_found 0 (omega arith) _)
      go (inr (inl e)) = rw e (header_found 1 (omega arith) _)
      go (inr (inr e)) = rw e (header_found 2 (omega arith) _)

  agile_begun : begin_of 2 agile_log ≡ begun (fresh 2 bitmap (header_length (banks bitmap)))
  unfolding begin_of
  agile_begun = rw (le-leb _ _ agile_short_lem, found) (go (valid_cases bitmap fit.good))
    where
      go : (bitmap ≡ 1) ⊎ ((bitmap ≡ 2) ⊎ (bitmap ≡ 3))
          → cond (eqb bitmap 0) (not_begun 37) (begun (fresh 2 bitmap (header_length (banks bitmap)))) ≡ begun (fresh 2 bitmap (header_length (banks bitmap)))
      go (inl e) = rw e
      go (inr (inl e)) = rw e
      go (inr (inr e)) = rw e

  -- 2. its replay, begun as format 2 and sliced in any numbers that add up to as many as were recorded, or more
  pub agile_replayed : (ns : List ℕ) → length agile_recorded ≤ sum ns
      → ((begin_of 2 agile_log).number ≡ 0) × (replayed ns (begin_of 2 agile_log).replay agile_log ≡ whole 2 bitmap (banks bitmap) agile_recorded agile_log)
  agile_replayed ns h = (
    ap (λ (o : BeginOutcome). o.number) agile_begun,
    ap (λ (o : BeginOutcome). replayed ns o.replay agile_log) agile_begun ∙ (rw (sym (length_header (banks bitmap))) sliced),
  )
    where
      given : is_given 2 bitmap ≡ true
      given = unfold is_given in (rw fit.good)

      reads : (m : Measure) (s : List ℕ) → GoodMeasure m → (form_of 2 bitmap).read (bytes_in (form_of 2 bitmap) m ++ s) ≡ got (entry_of (form_of 2 bitmap).covers m) s
      reads m s g =
          unfold form_of agile in ((sound_agile (banks bitmap) (every_banks bitmap) (omega (arith, few_banks bitmap))).back (entry_of (banks bitmap) m) (well (banks bitmap) m (every_banks bitmap) g) s)

      some : (m : Measure) → 0 < length (bytes_in (form_of 2 bitmap) m)
      some m = unfold form_of agile in (omega (arith, agile_least bitmap m fit.good))

      sliced : replayed ns (fresh 2 bitmap (length (header_bytes (banks bitmap)))) agile_log ≡ whole 2 bitmap (banks bitmap) agile_recorded agile_log
      sliced =
          unfold fresh made form_of agile in
          (replay_rest 2 bitmap given reads some agile_log agile_short_lem ns agile_recorded (header_bytes (banks bitmap)) reset_all (agile_bytes_lem bitmap lentOld lentAgile lentTable ok cs)
          (recorded_good (agile (banks bitmap)) (length lentAgile) cs bytes) h)

  -- what a reading of the agile log tells of its closing
  agile_told : (reading_of after.state 2 (length after.old) (length after.agile) (length after.table)).closed ≡ after.state.agile.closed
  unfolding reading_of
  agile_told = rw (fit_belongs bitmap (length lentOld) (length lentAgile) (length lentTable) after fit)

  -- 4. where no accepted request was extend-only and a last reading of format 2 reports the log not cut off, replay gives the registers themselves
  pub agile_proves : plain cs ≡ true → (reading_of after.state 2 (length after.old) (length after.agile) (length after.table)).closed ≡ false
      → (ns : List ℕ) → length (accepted cs) ≤ sum ns
      → ((begin_of 2 agile_log).number ≡ 0) × ((replayed ns (begin_of 2 agile_log).replay agile_log).number ≡ 0) × ((replayed ns (begin_of 2 agile_log).replay agile_log).done ≡ true)
      × ((replayed ns (begin_of 2 agile_log).replay agile_log).replay.registers.bytes ≡ after.state.registers.bytes)
  agile_proves p c ns h =
      let e : agile_recorded ≡ accepted cs = recorded_all (agile (banks bitmap)) (length lentAgile) cs p (sym (agile_closed bitmap lentOld lentAgile lentTable ok cs) ∙ sym agile_told ∙ c) in
      let r = agile_replayed ns (rw e h) in (
        r.0,
        ap (λ (o : SliceOutcome). o.number) r.1,
        ap (λ (o : SliceOutcome). o.done) r.1,
        ap (λ (o : SliceOutcome). o.replay.registers.bytes) r.1 ∙ ap (made (banks bitmap)) e ∙ sym (registers_are bitmap lentOld lentAgile lentTable ok cs),
      )

  -- ---- the 1.2 log, kept where SHA-1 is active

  module _ (a : active bitmap sha1_bank ≡ true) where
    abbrev pub old_log : List ℕ
    old_log = take after.state.old.used after.old

    abbrev pub old_recorded : List Measure
    old_recorded = recorded old (length lentOld) cs

    old_short_lem : length old_log ≤ log_limit
    old_short_lem = omega (arith, length-take after.state.old.used after.old, fit.old.within, fit.old_short)

    old_begun : begin_of 1 old_log ≡ begun (fresh 1 1 0)
    unfolding begin_of
    old_begun = rw (le-leb _ _ old_short_lem)

    -- 2. its replay, begun as format 1
    pub old_replayed : (ns : List ℕ) → length old_recorded ≤ sum ns
        → ((begin_of 1 old_log).number ≡ 0) × (replayed ns (begin_of 1 old_log).replay old_log ≡ whole 1 1 (sha1_bank ∷ []) old_recorded old_log)
    old_replayed ns h = (ap (λ (o : BeginOutcome). o.number) old_begun, ap (λ (o : BeginOutcome). replayed ns o.replay old_log) old_begun ∙ sliced)
      where
        given : is_given 1 1 ≡ true
        given = unfold is_given in refl

        every : Every (sha1_bank ∷ [])
        every = rw banks_1 at (every_banks 1)

        reads : (m : Measure) (s : List ℕ) → GoodMeasure m → (form_of 1 1).read (bytes_in (form_of 1 1) m ++ s) ≡ got (entry_of (form_of 1 1).covers m) s
        reads m s g = unfold form_of old in (sound_old.back (entry_of (sha1_bank ∷ []) m) (well (sha1_bank ∷ []) m every g) s)

        some : (m : Measure) → 0 < length (bytes_in (form_of 1 1) m)
        some m = unfold form_of old in (omega (arith, old_least m))

        sliced : replayed ns (fresh 1 1 0) old_log ≡ whole 1 1 (sha1_bank ∷ []) old_recorded old_log
        sliced =
            unfold fresh made form_of old in
            (replay_rest 1 1 given reads some old_log old_short_lem ns old_recorded [] reset_all (old_bytes_lem bitmap lentOld lentAgile lentTable ok a cs)
            (recorded_good old (length lentOld) cs bytes) h)

    old_told : (reading_of after.state 1 (length after.old) (length after.agile) (length after.table)).closed ≡ after.state.old.closed
    unfolding reading_of
    old_told = rw (fit_belongs bitmap (length lentOld) (length lentAgile) (length lentTable) after fit, fit.bitmap_is, a)

    -- 4. the same of format 1: replay gives the SHA-1 registers themselves
    pub old_proves : plain cs ≡ true → (reading_of after.state 1 (length after.old) (length after.agile) (length after.table)).closed ≡ false
        → (ns : List ℕ) → length (accepted cs) ≤ sum ns
        → ((begin_of 1 old_log).number ≡ 0) × ((replayed ns (begin_of 1 old_log).replay old_log).number ≡ 0) × ((replayed ns (begin_of 1 old_log).replay old_log).done ≡ true)
        × Agree sha1_bank (replayed ns (begin_of 1 old_log).replay old_log).replay.registers.bytes after.state.registers.bytes
    old_proves p c ns h =
        let e : old_recorded ≡ accepted cs = recorded_all old (length lentOld) cs p (sym (old_closed bitmap lentOld lentAgile lentTable ok a cs) ∙ sym old_told ∙ c) in
        let r = old_replayed ns (rw e h) in
        let g : All GoodMeasure (accepted cs) = rw (sym e) (recorded_good old (length lentOld) cs bytes) in (
          r.0,
          ap (λ (o : SliceOutcome). o.number) r.1,
          ap (λ (o : SliceOutcome). o.done) r.1,
          rw (r.1, e, registers_are bitmap lentOld lentAgile lentTable ok cs) (agree_sha1 bitmap (accepted cs) a g),
        )
