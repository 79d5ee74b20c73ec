-- What tests that hold say of their parts. Assumes nothing.
use Rattle.std.proofs.Common.{Bool, true, false, ◌&&◌, ◌≡◌, refl}

pub both : (a b : Bool) → (a && b) ≡ true → (a ≡ true) × (b ≡ true)
both true b h = (refl, h)
both false b h = cc
