-- Document 01, When the panel answers no: "An error status on the wire is 2^63 + the number"; success is 0.
use Rattle.std.specs.Prelude.{◌≡◌, refl}
use Rattle.digests.specs.Digests.{on_wire}

pub wire_0 : on_wire 0 ≡ 0
wire_0 = refl

pub wire_2 : on_wire 2 ≡ 0x8000000000000002
wire_2 = refl

pub wire_11 : on_wire 11 ≡ 0x800000000000000b
wire_11 = refl
