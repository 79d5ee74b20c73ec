-- The one slice that is printed takes the whole log: it is refused, or it is done. Assumes nothing.
use Rattle.std.proofs.Common.{true, List, [], ◌∷◌, ◌≡◌, refl, ap, ◌∙◌, ℕ, zero, suc, ◌≤◌, arith, length, drop, length-drop}
use Rattle.entry.specs.Read.{Read}
use Rattle.replay.specs.declared.Replay.{Replay}
use Rattle.replay_walk.specs.Walk.{fine, Walk, walk}
use Rattle.replay_walk.specs.Taken.{form_of, takes, place_of}
use Rattle.replay.specs.Replay.{slice_of}
use Rattle.replay_walk.proofs.Walks.{Eats}
use Rattle.replay_walk.proofs.Sizes.{eats_less, form_eats}
use Rattle.replay.proofs.Replays.{walks, exactly_0}
use Rattle.replay.proofs.Slices.{slice_replay, done_place}

module _ {A S : Type 0} (read : List ℕ → Read A) (act : A → S → S) (h : Eats 1 read) where
  -- a walk that is asked for as many entries as there are bytes, and isn't refused, leaves no byte
  pub to_end : (n : ℕ) (s : List ℕ) (x : S) → length s ≤ n → (walk read act n s x).stop ≡ fine → length (walk read act n s x).left ≡ 0
  unfolding walk
  to_end zero s x l t = omega arith
  to_end (suc n) [] x l t = refl
  to_end (suc n) (c ∷ s) x l t = grind (arith, h.size, to_end n)

-- a slice that is asked for as many entries as the log has bytes is refused or done
pub whole_log : (p : Replay) (log : List ℕ) → (slice_of p log (length log)).number ≡ 0 → (slice_of p log (length log)).done ≡ true
whole_log p log h =
    let e = (exactly_0 p log (length log)).0 h in
    let w : Walk (List ℕ) = walks p log (length log) in
    let f = form_of p.format p.banks in
    let k : length (drop p.place log) ≤ length log = omega (arith, length-drop p.place log) in
    let z : length w.left ≡ 0 =
    to_end f.read (takes f.covers) (eats_less (omega arith) (form_eats p.format p.banks)) (length log) (drop p.place log) p.registers.bytes k e.1 in
    let q : place_of log w ≡ length log = omega arith in
    (done_place p log (length log) h).1 (ap (λ (r : Replay). r.place) (slice_replay p log e.0 (length log)) ∙ q)
