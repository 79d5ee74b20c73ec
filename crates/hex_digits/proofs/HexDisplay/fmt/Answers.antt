use Rattle.std.proofs.Common.{◌≡◌, List, ℕ, [], ◌++◌, ap, ◌∙◌, rules, arith, append_assoc, append-nil}
use Rattle.std.proofs.Output.{has_written_append, has_written_of_eq}
use Rattle.std.proofs.lemmas.Grind.{common_steps}
use Rattle.std.proofs.lemmas.List.{nil_from_length}
use Rattle.hex_digits.specs.Hex.{hex_of}
use Rattle.hex_digits.proofs.Laws.{hex_append}
use Rattle.hex_digits.proofs.HexDisplay.fmt.Goals as goal

pub loop-part-init : goal.loop-part-init
loop-part-init g c = (search rules, tt, search rules, λ plain. ([], search rules, ap hex_of (grind (arith, common_steps))))

-- the digits of one part more
hex_more : (done part left rest : List ℕ) {all : List ℕ} → left ≡ part ++ rest → done ++ hex_of left ≡ all → (done ++ hex_of part) ++ hex_of rest ≡ all
hex_more done part left rest e q = append_assoc done (hex_of part) (hex_of rest) ∙ rw (e, hex_append part rest) at q

pub loop-part-preserved : goal.loop-part-preserved
loop-part-preserved g c =
    let steps = c.in-Some.ensures.steps in (
      search rules,
      tt,
      steps.0 ∙ c.loop-part.invariant.2,
      λ plain.
          let so_far = c.loop-part.invariant.3 plain in
          (_, has_written_append _ _ _ _ _ _ so_far.1 (search rules), hex_more so_far.0 c.in-Some.part.now _ _ steps.1.0 so_far.2),
    )

pub returns-clause-writes : goal.returns-clause-writes
unfolding hex_of
returns-clause-writes g c = λ plain _.
    let so_far = c.loop-part.invariant.3 plain in
    let none = nil_from_length _ c.in-None.ensures.steps.1.0 in
    has_written_of_eq _ _ _ _ _ (rw (none, append-nil) at so_far.2) so_far.1
