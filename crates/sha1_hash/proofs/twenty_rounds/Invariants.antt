-- `twenty_rounds`: after i turns v is the hash value after i rounds from t on, for each function that f's answers are those of.
use Rattle.std.proofs.Common.{◌≡◌, ℕ}
use Rattle.padding.specs.Words.{steps}
use Rattle.sha1_hash.specs.Sha1.{step_of}
use Rattle.sha1_hash.proofs.twenty_rounds.Given as goal

abbrev pub invariant-loop-i : goal.invariant-loop-i
invariant-loop-i g l =
    (h : ℕ → ℕ → ℕ → ℕ) → ((x y z r : ℕ) → goal.F-post g l.f x y z r → r ≡ h x y z) → l.v ≡ steps (step_of h l.k l.w) l.t l.i l.initial.v
