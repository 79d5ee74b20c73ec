-- What any calls leave in each store and in the registers: the logs were offered all that is logged, the table what is logged while it is armed, and
-- the registers were extended with all that is accepted. Assumes nothing.
use Rattle.std.proofs.Common.{Bool, true, false, not, ◌&&◌, List, [], ◌∷◌, ◌++◌, ◌≡◌, refl, ap, ◌∙◌, ℕ, arith}
use Rattle.bank.specs.Bank.{banks, active, sha1_bank}
use Rattle.bank.specs.Registers.{extend_all, hashes}
use Rattle.entry.specs.Entry.{old_bytes, agile_bytes}
use Rattle.entry.specs.Form.{old, agile}
use Rattle.store.specs.Store.{Offered, offered}
use Rattle.request.specs.Request.{extend_only}
use Rattle.request.specs.Request as spec
use Rattle.history.specs.History.{Call, ask, reading, Panel, step, run, Measure, measure_of, entry_of, bytes_in, is_good, arms, keep_if, accepted, logged, plain, extend_by}
use Rattle.history.proofs.Stores.{puts}
use Rattle.history.proofs.Steps.{old_of, agile_of, extended_panel, logged_panel, armed_panel, step_bad, step_only, step_logged, step_reading, old_logged, agile_logged, registers_logged}
use Rattle.history.proofs.Fits.{Fit, fit_belongs, fit_step}

-- prefixes of calls
pub run_append : (cs ds : List Call) (p : Panel) → run (cs ++ ds) p ≡ run ds (run cs p)
unfolding run
run_append [] ds p = refl
run_append (c ∷ cs) ds p = run_append cs ds (step c p)

-- something done for each measurement
abbrev pub each : {X : Type 0} → (Measure → X → X) → List Measure → X → X
each act [] x = x
each act (m ∷ ms) x = each act ms (act m x)

module _ (bitmap O A T : ℕ) where
  -- a part of the panel that only logged requests change
  module _ {X : Type 0} (look : Panel → X) (act : Measure → X → X) (extends : (m : Measure) (p : Panel) → look (extended_panel m p) ≡ look p)
      (arming : (b : Bool) (p : Panel) → look (armed_panel b p) ≡ look p) (logs : (m : Measure) (p : Panel) → Fit bitmap O A T p → look (logged_panel m p) ≡ act m (look p)) where
    ask_part : (flags : ℕ) (message request : List ℕ) (ms : List Measure) (p : Panel) → Fit bitmap O A T p → (g o : Bool) → is_good flags message request ≡ g → extend_only flags ≡ o
        → each act ms (look (step (ask flags message request) p)) ≡ each act (keep_if (g && not o) (measure_of message request) ms) (look p)
    ask_part flags message request ms p k false o e f = ap (λ (q : Panel). each act ms (look q)) (step_bad p (fit_belongs bitmap O A T p k) flags message request e)
    ask_part flags message request ms p k true true e f =
        ap (λ (q : Panel). each act ms (look q)) (step_only p (fit_belongs bitmap O A T p k) flags message request e f)
        ∙ ap (each act ms) (extends (measure_of message request) p)
    ask_part flags message request ms p k true false e f =
        ap (λ (q : Panel). each act ms (look q)) (step_logged p (fit_belongs bitmap O A T p k) flags message request e f)
        ∙ ap (each act ms) (logs (measure_of message request) p k)

    pub run_part : (cs : List Call) (p : Panel) → Fit bitmap O A T p → look (run cs p) ≡ each act (logged cs) (look p)
    unfolding run logged
    run_part [] p k = refl
    run_part (ask flags message request ∷ cs) p k =
        run_part cs (step (ask flags message request) p) (fit_step bitmap O A T (ask flags message request) p k)
        ∙ ask_part flags message request (logged cs) p k (is_good flags message request) (extend_only flags) refl refl
    run_part (reading format ∷ cs) p k =
        run_part cs (step (reading format) p) (fit_step bitmap O A T (reading format) p k)
        ∙ ap (λ (q : Panel). each act (logged cs) (look q)) (step_reading p (fit_belongs bitmap O A T p k) format)
        ∙ ap (each act (logged cs)) (arming (arms p.state.bitmap format) p)

-- offers one after another
puts_each : (bytes : Measure → List ℕ) (ms : List Measure) (o : Offered) → each (λ m o. offered (bytes m) o.store o.buffer) ms o ≡ puts bytes ms o
unfolding puts
puts_each bytes [] o = refl
puts_each bytes (m ∷ ms) o = puts_each bytes ms (offered (bytes m) o.store o.buffer)

each_none : {X : Type 0} (ms : List Measure) (x : X) → each (λ m y. y) ms x ≡ x
each_none [] x = refl
each_none (m ∷ ms) x = each_none ms x

module _ (bitmap O A T : ℕ) where
  agile_extended : (m : Measure) (p : Panel) → agile_of (extended_panel m p) ≡ agile_of p
  unfolding spec.extended
  agile_extended m p = refl

  agile_armed : (b : Bool) (p : Panel) → agile_of (armed_panel b p) ≡ agile_of p
  agile_armed true p = refl
  agile_armed false p = refl

  -- the agile log after any calls
  pub run_agile : (cs : List Call) (p : Panel) → Fit bitmap O A T p → agile_of (run cs p) ≡ puts (bytes_in (agile (banks bitmap))) (logged cs) (agile_of p)
  unfolding agile
  run_agile cs p k =
      run_part bitmap O A T agile_of (λ m o. offered (agile_bytes (banks bitmap) (entry_of (banks bitmap) m)) o.store o.buffer) agile_extended agile_armed
      (λ m q l. agile_logged m q ∙ (rw l.bitmap_is)) cs p k
      ∙ puts_each (λ m. agile_bytes (banks bitmap) (entry_of (banks bitmap) m)) (logged cs) (agile_of p)

  old_extended : (m : Measure) (p : Panel) → old_of (extended_panel m p) ≡ old_of p
  unfolding spec.extended
  old_extended m p = refl

  old_armed : (b : Bool) (p : Panel) → old_of (armed_panel b p) ≡ old_of p
  old_armed true p = refl
  old_armed false p = refl

  -- the 1.2 log after any calls, where SHA-1 is active
  pub run_old : active bitmap sha1_bank ≡ true → (cs : List Call) (p : Panel) → Fit bitmap O A T p → old_of (run cs p) ≡ puts (bytes_in old) (logged cs) (old_of p)
  unfolding old
  run_old a cs p k =
      run_part bitmap O A T old_of (λ m o. offered (old_bytes (entry_of (sha1_bank ∷ []) m)) o.store o.buffer) old_extended old_armed
      (λ m q l. old_logged m q ∙ (rw (l.bitmap_is, a))) cs p k
      ∙ puts_each (λ m. old_bytes (entry_of (sha1_bank ∷ []) m)) (logged cs) (old_of p)

  -- and where it isn't: no byte is written
  pub run_no_old : active bitmap sha1_bank ≡ false → (cs : List Call) (p : Panel) → Fit bitmap O A T p → old_of (run cs p) ≡ old_of p
  run_no_old a cs p k =
      run_part bitmap O A T old_of (λ m o. o) old_extended old_armed (λ m q l. old_logged m q ∙ (rw (l.bitmap_is, a))) cs p k ∙ each_none (logged cs) (old_of p)

  -- ---- the registers

  abbrev registers_of : Panel → List ℕ
  registers_of p = p.state.registers.bytes

  registers_extended : (m : Measure) (p : Panel) → Fit bitmap O A T p
      → registers_of (extended_panel m p) ≡ extend_all (banks bitmap) m.register (hashes (banks bitmap) m.message) (registers_of p)
  unfolding spec.extended
  registers_extended m p k = rw k.bitmap_is

  registers_armed : (b : Bool) (p : Panel) → registers_of (armed_panel b p) ≡ registers_of p
  registers_armed true p = refl
  registers_armed false p = refl

  ask_registers : (flags : ℕ) (message request : List ℕ) (ms : List Measure) (p : Panel) → Fit bitmap O A T p → (g o : Bool) → is_good flags message request ≡ g → extend_only flags ≡ o
      → extend_by (banks bitmap) ms (registers_of (step (ask flags message request) p)) ≡ extend_by (banks bitmap) (keep_if g (measure_of message request) ms) (registers_of p)
  unfolding extend_by
  ask_registers flags message request ms p k false o e f =
      ap (λ (q : Panel). extend_by (banks bitmap) ms (registers_of q)) (step_bad p (fit_belongs bitmap O A T p k) flags message request e)
  ask_registers flags message request ms p k true true e f =
      ap (λ (q : Panel). extend_by (banks bitmap) ms (registers_of q)) (step_only p (fit_belongs bitmap O A T p k) flags message request e f)
      ∙ ap (extend_by (banks bitmap) ms) (registers_extended (measure_of message request) p k)
  ask_registers flags message request ms p k true false e f =
      ap (λ (q : Panel). extend_by (banks bitmap) ms (registers_of q)) (step_logged p (fit_belongs bitmap O A T p k) flags message request e f)
      ∙ ap (extend_by (banks bitmap) ms) (registers_logged (measure_of message request) p ∙ (rw k.bitmap_is))

  pub run_registers : (cs : List Call) (p : Panel) → Fit bitmap O A T p → registers_of (run cs p) ≡ extend_by (banks bitmap) (accepted cs) (registers_of p)
  unfolding run accepted extend_by
  run_registers [] p k = refl
  run_registers (ask flags message request ∷ cs) p k =
      run_registers cs (step (ask flags message request) p) (fit_step bitmap O A T (ask flags message request) p k)
      ∙ ask_registers flags message request (accepted cs) p k (is_good flags message request) (extend_only flags) refl refl
  run_registers (reading format ∷ cs) p k =
      run_registers cs (step (reading format) p) (fit_step bitmap O A T (reading format) p k)
      ∙ ap (λ (q : Panel). extend_by (banks bitmap) (accepted cs) (registers_of q)) (step_reading p (fit_belongs bitmap O A T p k) format)
      ∙ ap (extend_by (banks bitmap) (accepted cs)) (registers_armed (arms p.state.bitmap format) p)

-- where no accepted request was extend-only, all are logged
pub logged_all : (cs : List Call) → plain cs ≡ true → logged cs ≡ accepted cs
unfolding plain logged accepted
logged_all [] h = refl
logged_all (reading format ∷ cs) h = logged_all cs h
logged_all (ask flags message request ∷ cs) h = go (is_good flags message request) (extend_only flags) h (logged_all cs)
  where
    go : (g o : Bool) → (not (g && o) && plain cs) ≡ true → (plain cs ≡ true → logged cs ≡ accepted cs)
        → keep_if (g && not o) (measure_of message request) (logged cs) ≡ keep_if g (measure_of message request) (accepted cs)
    go false o k ih = ih k
    go true true k ih = absurd (let z : ◌≡◌ {A = ℕ} 0 1 = cc in omega arith)
    go true false k ih = ap (λ (r : List Measure). measure_of message request ∷ r) (ih k)
