-- `joined`: the words of the register, of the digest and of their padding, each behind the other, are the block's.
use Rattle.padding.proofs.Laws.{words_behind}
use Rattle.std.proofs.Common.{◌++◌, ap, ◌∙◌, arith, length-append}
use Rattle.padding.specs.Padding.{padding}
use Rattle.sha1_hash.specs.Sha1.{rounds, H₀}
use Rattle.sha1_hash.proofs.Laws.{compressed}
use Rattle.sha1_hash.proofs.joined.Goals as goal

pub returns : goal.returns
returns c =
    let register = c.args.register.now in
    let digest = c.args.digest.now in
    compressed c.args.w.now _ _ ((register ++ digest) ++ padding 64 8 40) H₀ _ (omega arith)
    (words_behind 4 10 6 0 (register ++ digest) (padding 64 8 40) c.args.w.now _ _ (omega (arith, length-append register digest))
    (words_behind 4 5 5 0 register digest c.args.w.now _ _ c.requires.0 c.load.ensures c.load-2.ensures)
    c.load_padded.ensures)
    c.expand.ensures
    (c.all_rounds.ensures ∙ ap (rounds _) c.start.ensures)
