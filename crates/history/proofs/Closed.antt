-- An offer leaves a closed store as it is, and a request that passes its checks and is no image is accepted. Assumes nothing.
use Rattle.std.proofs.Common.{true, List, ◌≡◌, ℕ, ◌/◌, ◌%◌, length, ne_eqb}
use Rattle.store.specs.declared.Store.{Store}
use Rattle.store.specs.declared.Table.{Table}
use Rattle.store.specs.Store.{offered_of, offered, table_of, table_offered}
use Rattle.service.specs.declared.State.{State}
use Rattle.service.specs.State.{belongs}
use Rattle.request_checks.specs.Checks.{well_formed}
use Rattle.request.specs.Request.{accepted, request_of}

pub stays : (bytes : List ℕ) (s : Store) (buffer : List ℕ) → s.closed ≡ true → offered_of s buffer ≡ offered bytes s buffer
unfolding offered
stays bytes s buffer h = rw h

pub table_stays : (bytes : List ℕ) (t : Table) (buffer : List ℕ) → t.closed ≡ true → table_of t buffer ≡ table_offered bytes t buffer
unfolding table_offered
table_stays bytes t buffer h = rw h

pub accepts : (s : State) (flags : ℕ) (message request old agile table : List ℕ) → belongs s (length old) (length agile) (length table) ≡ true
    → well_formed flags (length message) request ≡ true → (flags / 16 % 2 ≡ 1 → ⊥) → accepted s flags message request old agile table ≡ request_of s flags message request old agile table
unfolding request_of
accepts s flags message request old agile table h w p = rw (h, w, ne_eqb (flags / 16 % 2) 1 p)
