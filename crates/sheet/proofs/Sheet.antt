-- The whole table of the sheet holds, by one computed test, and so does each row's claim. Assumes nothing.
use Rattle.std.proofs.Common.{true, List, [], ◌∷◌, ◌≡◌, refl, ap, ◌∙◌, ℕ, arith, eqb-true, eqb}
use Rattle.wire.proofs.Tests.{both}
use Rattle.wire.specs.Bytes.{le, unle, num}
use Rattle.padding.specs.Words.{run, bytes, number}
use Rattle.padding.specs.Padding.{blocks, zeros, ending, padding, hash}
use Rattle.padding.specs.Sha2.{expanded as expanded₂, rounds as rounds₂, compress as compress₂, output as output₂}
use Rattle.sha1_hash.specs.Sha1.{sha1, f, K, expanded, rounds, compress, H₀, output}
use Rattle.sha256.specs.Sha256.{sha256, K as K₂, H₀ as H₂}
use Rattle.bank.specs.Bank.{table, valid, banks}
use Rattle.bank.specs.Registers.{extend, extend_all, reset_first, reset_of, reset_all}
use Rattle.entry.specs.Entry.{event_limit, log_limit, head_bytes, event_bytes, digest_bytes, old_bytes, agile_bytes}
use Rattle.entry.specs.Header.{header_front, spec_id, size_bytes, header_title, header_bytes, header_length}
use Rattle.store.specs.Store.{count_limit, offered, table_offered}
use Rattle.service.specs.Opening.{fresh, table_front, in_limits, roomy, opening_of}
use Rattle.service.specs.State.{belongs}
use Rattle.service.specs.Reading.{reading_of}
use Rattle.request_checks.specs.Checks.{data_limit, fields_good, well_formed}
use Rattle.request_log.specs.Log.{lacking}
use Rattle.request.specs.Request.{accepted, request_of}
use Rattle.request.specs.Request as request
use Rattle.history.specs.History.{status_of, step, opening}
use Rattle.sheet.specs.Sheet.{before, status, told, armed, logged, used, extended, four_zeros, p1, p1_entry, p1_sha1, p1_sha256, to_register, of_size, fox}
use Rattle.sheet.specs.Sheet.{Row, seen, rows, same, holds, all, Claims}

-- lists that pass the test are the same
same_true : (xs ys : List ℕ) → same xs ys ≡ true → xs ≡ ys
unfolding same
same_true [] [] h = refl
same_true [] (y ∷ ys) h = absurd (let z : ◌≡◌ {A = ℕ} 0 1 = cc in omega arith)
same_true (x ∷ xs) [] h = absurd (let z : ◌≡◌ {A = ℕ} 0 1 = cc in omega arith)
same_true (x ∷ xs) (y ∷ ys) h =
    let b = both (eqb x y) (same xs ys) h in
    ap (λ (z : ℕ). z ∷ xs) (eqb-true x y b.0) ∙ ap (λ (zs : List ℕ). y ∷ zs) (same_true xs ys b.1)

-- a tested table's claims
pub claims : (rs : List Row) → all rs ≡ true → Claims rs
unfolding all holds
claims [] h = tt
claims (r ∷ rs) h =
    let b = both (same (seen r) r.expected) (all rs) h in
    (same_true (seen r) r.expected b.0, claims rs b.1)

-- the whole table, by one test
pub holds_all : all rows ≡ true
unfolding rows all holds same seen before status told armed logged used extended four_zeros p1 p1_entry p1_sha1 p1_sha256 to_register of_size fox status_of step opening opening_of in_limits roomy fresh table_front belongs reading_of request_of well_formed fields_good data_limit accepted request.extended request.logged lacking offered table_offered count_limit event_limit log_limit head_bytes event_bytes digest_bytes old_bytes agile_bytes header_front spec_id size_bytes header_title header_bytes header_length extend extend_all reset_first reset_of reset_all table valid banks le unle num sha1 sha256 hash output output₂ padding ending zeros blocks bytes number run compress compress₂ rounds rounds₂ expanded expanded₂ f K K₂ H₀ H₂
holds_all = refl

-- P1 to P12
pub sheet : Claims rows
sheet = claims rows holds_all
