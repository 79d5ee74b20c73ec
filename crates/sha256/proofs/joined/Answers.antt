-- `joined`: the words of register and digest, loaded one behind the other, are those of the joined bytes.
use Rattle.std.proofs.Common.{◌++◌, ap, ◌∙◌, arith}
use Rattle.padding.specs.Sha2.{rounds}
use Rattle.padding.proofs.Laws.{words_behind}
use Rattle.sha256.specs.Sha256.{P, H₀}
use Rattle.sha256.proofs.Laws.{compressed}
use Rattle.sha256.proofs.joined.Goals as goal

pub returns : goal.returns
returns c =
    let register = c.args.register.now in
    let digest = c.args.digest.now in
    compressed c.args.w.now _ _ (register ++ digest) H₀ _ (omega arith)
    (words_behind 4 8 8 0 register digest c.args.w.now _ _ c.requires.0 c.load.ensures c.load-2.ensures)
    c.expand.ensures
    (c.all_rounds.ensures ∙ ap (rounds P _) c.start.ensures)
