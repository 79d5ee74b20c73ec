-- What the answers come to, over the hash and its digest's length. Assumes nothing.
use Rattle.std.proofs.Common.{◌≡◌, ℕ, List, ◌++◌, length, true, false, ◌&&◌, eqb, eqb-true}
use Rattle.std.proofs.lemmas.Bool.{and_parts, eq-eqb, ne_eqb}
use Rattle.digests.specs.Digests.{on_wire, outcome, digested, extended}

module _ (hash : List ℕ → List ℕ) (size : ℕ) where
  pub digest_made : (message buffer : List ℕ) {out : List ℕ} → length buffer ≡ size → out ≡ hash message → outcome 0 out ≡ digested hash size message buffer
  unfolding digested
  digest_made message buffer h e = rw (eq-eqb (length buffer) size h, e)

  pub digest_refused : (message buffer : List ℕ) → (length buffer ≡ size → ⊥) → outcome (on_wire 2) buffer ≡ digested hash size message buffer
  unfolding digested
  digest_refused message buffer h = rw (ne_eqb (length buffer) size h)

  pub extend_made : (register digest : List ℕ) {out : List ℕ} → (eqb (length register) size && eqb (length digest) size) ≡ true
      → out ≡ hash (register ++ digest) → outcome 0 out ≡ extended hash size register digest
  unfolding extended
  extend_made register digest h e = rw (h, e)

  pub extend_refused : (register digest : List ℕ) → (eqb (length register) size && eqb (length digest) size) ≡ false
      → outcome (on_wire 2) register ≡ extended hash size register digest
  unfolding extended
  extend_refused register digest h = rw h

-- what a test of two lengths says of them
pub lengths : (a b size : ℕ) → (eqb a size && eqb b size) ≡ true → (a ≡ size) × (b ≡ size)
lengths a b size h = let parts = and_parts (eqb a size) (eqb b size) h in (eqb-true a size parts.0, eqb-true b size parts.1)
