-- A log whose bytes are a head and the entries of good measurements is replayed to its end, however it is sliced. Assumes nothing.
use Rattle.std.proofs.Common.{true, List, [], ◌∷◌, ◌++◌, append_assoc, ◌≡◌, refl, sym, ap, ◌∙◌, ℕ, zero, suc, ◌+◌, ◌-◌, ◌≤◌, ◌<◌, arith, le-leb, eq-eqb, eqb, length, take, drop, length-append, length-take, length-drop, drop_at}
use Rattle.std.proofs.Math.Nat.{sub-zero}
use Rattle.bank.specs.Bank.{Bank}
use Rattle.entry.specs.Entry.{log_limit}
use Rattle.entry.specs.Read.{got}
use Rattle.replay_walk.specs.Walk.{fine, walk, more, sum}
use Rattle.replay.specs.declared.Replay.{Replay}
use Rattle.replay_walk.specs.Taken.{form_of, takes}
use Rattle.replay.specs.Replay.{slice_of, is_given}
use Rattle.replay_walk.proofs.Walks.{came, walk_got}
use Rattle.history.specs.History.{Measure, entry_of, bytes_in, all_bytes, extend_by}
use Rattle.history.specs.Replayed.{counting, replayed}
use Rattle.history.proofs.Good.{GoodMeasure, All}

-- ---- some measurements and the others

all_take : (P : Measure → Type 0) (n : ℕ) (ms : List Measure) → All P ms → All P (drop n ms)
all_take P zero ms g = g
all_take P (suc n) [] g = tt
all_take P (suc n) (m ∷ ms) g = all_take P n ms g.1

bytes_split : (bytes : Measure → List ℕ) (n : ℕ) (ms : List Measure) → all_bytes bytes ms ≡ all_bytes bytes (take n ms) ++ all_bytes bytes (drop n ms)
unfolding all_bytes
bytes_split bytes zero ms = refl
bytes_split bytes (suc n) [] = refl
bytes_split bytes (suc n) (m ∷ ms) = ap (λ (x : List ℕ). bytes m ++ x) (bytes_split bytes n ms) ∙ sym (append_assoc (bytes m) _ _)

extend_split : (bs : List Bank) (n : ℕ) (ms : List Measure) (g : List ℕ) → extend_by bs (drop n ms) (extend_by bs (take n ms) g) ≡ extend_by bs ms g
unfolding extend_by
extend_split bs zero ms g = refl
extend_split bs (suc n) [] g = refl
extend_split bs (suc n) (m ∷ ms) g = extend_split bs n ms _

-- ---- a replay of this format and these banks, over entries that its form reads back

module _ (format bitmap : ℕ) (given : is_given format bitmap ≡ true)
    (reads : (m : Measure) (s : List ℕ) → GoodMeasure m → (form_of format bitmap).read (bytes_in (form_of format bitmap) m ++ s) ≡ got (entry_of (form_of format bitmap).covers m) s)
    (some : (m : Measure) → 0 < length (bytes_in (form_of format bitmap) m)) where
  abbrev covers : List Bank
  covers = (form_of format bitmap).covers

  abbrev bytes : Measure → List ℕ
  bytes = bytes_in (form_of format bitmap)

  abbrev pub standing : ℕ → List ℕ → Replay
  standing place g = record { format = format; banks = bitmap; place = place; registers = record { bytes = g } }

  walk_some : (n : ℕ) (ms : List Measure) (g : List ℕ) → All GoodMeasure ms
      → walk (form_of format bitmap).read (takes covers) n (all_bytes bytes ms) g ≡ came (length (take n ms)) (all_bytes bytes (drop n ms)) (extend_by covers (take n ms) g) fine
  unfolding walk all_bytes extend_by takes
  walk_some zero ms g a = refl
  walk_some (suc n) [] g a = refl
  walk_some (suc n) (m ∷ ms) g a =
      let l : 0 < length (bytes m ++ all_bytes bytes ms) = rw length-append (omega (arith, some m)) in
      walk_got (form_of format bitmap).read (takes covers) n (bytes m ++ all_bytes bytes ms) (all_bytes bytes ms) g (entry_of covers m) l (reads m (all_bytes bytes ms) a.0)
      ∙ ap more (walk_some n ms (takes covers (entry_of covers m) g) a.1)

  module _ (log : List ℕ) (short : length log ≤ log_limit) where
    one_slice : (n : ℕ) (ms : List Measure) (pre g : List ℕ) → log ≡ pre ++ all_bytes bytes ms → All GoodMeasure ms
        → slice_of (standing (length pre) g) log n ≡ record {
          number = 0;
          offset = 0;
          taken = length (take n ms);
          done = eqb (length log - length (all_bytes bytes (drop n ms))) (length log);
          replay = standing (length log - length (all_bytes bytes (drop n ms))) (extend_by covers (take n ms) g);
        }
    unfolding slice_of
    one_slice n ms pre g e a =
        let u : length pre ≤ length log = rw e (rw length-append (omega arith)) in
        let d : drop (length pre) log ≡ all_bytes bytes ms = rw e (drop_at pre (all_bytes bytes ms) (length pre) refl) in
        rw (le-leb _ _ short, le-leb _ _ u, given, d, walk_some n ms g a)

    -- slices of any numbers that add up to as many as there are entries, or more
    pub replay_rest : (ns : List ℕ) (ms : List Measure) (pre g : List ℕ) → log ≡ pre ++ all_bytes bytes ms → All GoodMeasure ms → length ms ≤ sum ns
        → replayed ns (standing (length pre) g) log ≡ record { number = 0; offset = 0; taken = length ms; done = true; replay = standing (length log) (extend_by covers ms g) }
    unfolding replayed
    replay_rest [] [] pre g e a h = one_slice 0 [] pre g e a ∙ (unfold all_bytes extend_by in (rw (sub-zero, eq-eqb (length log) (length log) refl)))
    replay_rest [] (m ∷ ms) pre g e a h = absurd (omega arith)
    replay_rest (n ∷ ns) ms pre g e a h =
        let x : List ℕ = all_bytes bytes (take n ms) in
        let y : List ℕ = all_bytes bytes (drop n ms) in
        let s = one_slice n ms pre g e a in
        let f : log ≡ (pre ++ x) ++ y = e ∙ ap (λ (z : List ℕ). pre ++ z) (bytes_split bytes n ms) ∙ sym (append_assoc pre x y) in
        let l : length log ≡ length (pre ++ x) + length y = ap length f ∙ length-append (pre ++ x) y in
        let p : length log - length y ≡ length (pre ++ x) = omega arith in
        let q : length (drop n ms) ≤ sum ns = omega (arith, length-drop n ms) in
        let t : length (take n ms) + length (drop n ms) ≡ length ms = omega (arith, length-take n ms, length-drop n ms) in
        let i = replay_rest ns (drop n ms) (pre ++ x) (extend_by covers (take n ms) g) f (all_take GoodMeasure n ms a) q in
        rw (s, p) (ap (counting (length (take n ms))) i ∙ (rw (t, extend_split covers n ms g)))
