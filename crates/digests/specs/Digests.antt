-- Digests and extended registers: what each call answers and leaves in what it was lent.
use Rattle.std.specs.Prelude.{cond, ◌&&◌, List, ◌++◌, ◌≡◌, ℕ, ◌+◌, ◌^◌, eqb, length}
use Rattle.std.proofs.Common.{sym, ap, ◌∙◌}

-- 01, When the panel answers no: "An error status on the wire is 2^63 + the number"; success is 0
abbrev pub on_wire : ℕ → ℕ
on_wire n = cond (eqb n 0) 0 (2 ^ 63 + n)

-- the status, and the final content of the lent buffer
pub record Outcome : Type 0 where
  pub status : ℕ
  pub buffer : List ℕ

abbrev pub outcome : ℕ → List ℕ → Outcome
outcome s b = record { status = s; buffer = b }

-- the digest of the data where the buffer has its length; else invalid parameter, and the buffer stays
unfoldable pub digested : (List ℕ → List ℕ) → ℕ → List ℕ → List ℕ → Outcome
digested hash size message buffer = cond (eqb (length buffer) size) (outcome 0 (hash message)) (outcome (on_wire 2) buffer)

-- 01, Banks: "Extending a register sets it to the bank's hash of (old value, then digest)"; else invalid parameter, and the register stays
unfoldable pub extended : (List ℕ → List ℕ) → ℕ → List ℕ → List ℕ → Outcome
extended hash size register digest =
    cond (eqb (length register) size && eqb (length digest) size) (outcome 0 (hash (register ++ digest))) (outcome (on_wire 2) register)

-- two answers that are the same outcome are the same status and leave the same bytes
pub record Same (r r' : ℕ) (b b' : List ℕ) : Type 0 where
  pub status : r ≡ r'
  pub buffer : b ≡ b'

-- no second outcome meets what a call states
pub unique : (o : Outcome) (r r' : ℕ) (b b' : List ℕ) → outcome r b ≡ o → outcome r' b' ≡ o → Same r r' b b'
unique o r r' b b' p q =
    let e : outcome r b ≡ outcome r' b' = p ∙ sym q in
    record { status = ap (λ (x : Outcome). x.status) e; buffer = ap (λ (x : Outcome). x.buffer) e }
