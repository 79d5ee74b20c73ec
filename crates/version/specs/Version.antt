-- What tells a header and an archive of different layouts apart.
use Rattle.std.specs.Prelude.{◌≡◌, refl, ℕ, ◌+◌, ◌*◌, ◌^◌}
use Rattle.std.proofs.Common.{sym, ◌∙◌}
use Rattle.layout.specs.Layout.{state_length}
use Rattle.placed.specs.Placed.{replay_length}

-- the number of the set of calls: one more with each that is added or changed
abbrev pub interface : ℕ
interface = 1

-- the interface's number, and the bytes of a state and of a replay in sixteen bits each
abbrev pub version : ℕ
version = interface * 2 ^ 32 + (state_length * 2 ^ 16 + replay_length)

-- with two banks: 1,307 and 1,264 bytes
pub two_banks : version ≡ 0x1051b04f0
two_banks = refl

-- no second answer meets what the call states
pub unique : (r r' : ℕ) → r ≡ version → r' ≡ version → r ≡ r'
unique r r' p q = p ∙ sym q
