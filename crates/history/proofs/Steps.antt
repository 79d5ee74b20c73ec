-- What one call makes of the panel, where the state belongs. Assumes nothing.
use Rattle.std.proofs.Common.{Bool, true, false, cond, not, ◌&&◌, ◌||◌, List, [], ◌∷◌, ◌≡◌, refl, ◌∙◌, ℕ, arith, eqb, length}
use Rattle.bank.specs.Bank.{banks, active, sha1_bank}
use Rattle.bank.specs.Registers.{extend_all, hashes}
use Rattle.entry.specs.Entry.{old_bytes, agile_bytes}
use Rattle.store.specs.Store.{Offered, offered_of, offered, TableOffered, table_of, offer_if, offer_table_if}
use Rattle.service.specs.State.{belongs}
use Rattle.service.specs.Answer.{untouched}
use Rattle.service.specs.Reading.{armed, told, refused, reading_of}
use Rattle.request_checks.specs.Checks.{well_formed}
use Rattle.request.specs.Request.{pe_coff, extend_only, request_of}
use Rattle.request.specs.Request as spec
use Rattle.history.specs.History.{ask, reading, Panel, panel_of, step, Measure, measure_of, entry_of, is_good, arms}

-- the state belongs to its buffers
abbrev pub Belongs : Panel → Type 0
Belongs p = belongs p.state (length p.old) (length p.agile) (length p.table) ≡ true

-- the stores with their buffers
abbrev pub old_of : Panel → Offered
old_of p = offered_of p.state.old p.old

abbrev pub agile_of : Panel → Offered
agile_of p = offered_of p.state.agile p.agile

abbrev pub final_of : Panel → TableOffered
final_of p = table_of p.state.table p.table

-- the panel after an extend alone, and after an extend whose entry was offered to the stores
abbrev pub extended_panel : Measure → Panel → Panel
extended_panel m p = record { state = spec.extended p.state m.register m.message; old = p.old; agile = p.agile; table = p.table }

abbrev pub logged_panel : Measure → Panel → Panel
logged_panel m p =
    panel_of (spec.logged (spec.extended p.state m.register m.message) m.register m.kind m.message m.event p.old p.agile p.table)

abbrev pub armed_panel : Bool → Panel → Panel
armed_panel b p = record { state = cond b (armed p.state) p.state; old = p.old; agile = p.agile; table = p.table }

module _ (p : Panel) (b : Belongs p) where
  module _ (flags : ℕ) (message request : List ℕ) where
    pub step_bad : is_good flags message request ≡ false → step (ask flags message request) p ≡ p
    unfolding step request_of is_good
    step_bad h = rw b (go (well_formed flags (length message) request) (pe_coff flags) h)
      where
        go : (w e : Bool) → (w && not e) ≡ false
            → panel_of (cond w (cond e (untouched 3 p.state p.old p.agile p.table) (spec.accepted p.state flags message request p.old p.agile p.table)) (untouched 2 p.state p.old p.agile p.table)) ≡ p
        go true true k = refl
        go true false k = absurd (let z : ◌≡◌ {A = ℕ} 0 1 = cc in omega arith)
        go false e k = refl

    accepts : is_good flags message request ≡ true
        → step (ask flags message request) p ≡ panel_of (spec.accepted p.state flags message request p.old p.agile p.table)
    unfolding step request_of is_good
    accepts h = rw b (go (well_formed flags (length message) request) (pe_coff flags) h)
      where
        go : (w e : Bool) → (w && not e) ≡ true
            → panel_of (cond w (cond e (untouched 3 p.state p.old p.agile p.table) (spec.accepted p.state flags message request p.old p.agile p.table)) (untouched 2 p.state p.old p.agile p.table))
            ≡ panel_of (spec.accepted p.state flags message request p.old p.agile p.table)
        go true true k = absurd (let z : ◌≡◌ {A = ℕ} 0 1 = cc in omega arith)
        go true false k = refl
        go false e k = absurd (let z : ◌≡◌ {A = ℕ} 0 1 = cc in omega arith)

    pub step_only : is_good flags message request ≡ true → extend_only flags ≡ true → step (ask flags message request) p ≡ extended_panel (measure_of message request) p
    step_only h o = accepts h ∙ (unfold spec.accepted in (rw o))

    pub step_logged : is_good flags message request ≡ true → extend_only flags ≡ false → step (ask flags message request) p ≡ logged_panel (measure_of message request) p
    step_logged h o = accepts h ∙ (unfold spec.accepted in (rw o))

  pub step_reading : (format : ℕ) → step (reading format) p ≡ armed_panel (arms p.state.bitmap format) p
  unfolding step reading_of arms
  step_reading format = rw b (go (eqb format 1 && active p.state.bitmap sha1_bank) (eqb format 2))
    where
      go : (a f : Bool) → (record {
        state = (cond a (told p.state p.state.old) (cond f (told p.state p.state.agile) (refused 2 p.state))).state;
        old = p.old;
        agile = p.agile;
        table = p.table;
      }) ≡ armed_panel (a || f) p
      go true f = refl
      go false true = refl
      go false false = refl

-- ---- the parts of a panel after an extend whose entry was offered

module _ (m : Measure) (p : Panel) where
  pub old_logged : old_of (logged_panel m p) ≡ offer_if (active p.state.bitmap sha1_bank) (old_bytes (entry_of (sha1_bank ∷ []) m)) p.state.old p.old
  unfolding spec.logged spec.extended
  old_logged = refl

  pub agile_logged : agile_of (logged_panel m p) ≡ offered (agile_bytes (banks p.state.bitmap) (entry_of (banks p.state.bitmap) m)) p.state.agile p.agile
  unfolding spec.logged spec.extended
  agile_logged = refl

  pub final_logged : final_of (logged_panel m p)
      ≡ offer_table_if p.state.armed (agile_bytes (banks p.state.bitmap) (entry_of (banks p.state.bitmap) m)) p.state.table p.table
  unfolding spec.logged spec.extended
  final_logged = refl

  pub bitmap_logged : (logged_panel m p).state.bitmap ≡ p.state.bitmap
  unfolding spec.logged spec.extended
  bitmap_logged = refl

  pub armed_logged : (logged_panel m p).state.armed ≡ p.state.armed
  unfolding spec.logged spec.extended
  armed_logged = refl

  pub registers_logged : (logged_panel m p).state.registers.bytes
      ≡ extend_all (banks p.state.bitmap) m.register (hashes (banks p.state.bitmap) m.message) p.state.registers.bytes
  unfolding spec.logged spec.extended
  registers_logged = refl
