-- Document 01, Banks, at the edges: "Reset: all bits one in 17 to 22, all zero elsewhere".
use Rattle.std.specs.Prelude.{◌≡◌, refl}
use Rattle.bank.specs.Bank.{reset_byte}

pub reset_16 : reset_byte 16 ≡ 0
reset_16 = refl

pub reset_17 : reset_byte 17 ≡ 255
reset_17 = refl

pub reset_22 : reset_byte 22 ≡ 255
reset_22 = refl

pub reset_23 : reset_byte 23 ≡ 0
reset_23 = refl
