-- `extend`: 64 bytes are a whole block and a block of padding, and what they give covers the register.
use Rattle.std.proofs.Common.{◌≡◌, ◌++◌, refl, sym, ap, ◌∙◌, arith, length, length-append}
use Rattle.padding.specs.Padding.{padding, blocks}
use Rattle.padding.specs.Sha2.{compress, output}
use Rattle.padding.proofs.Laws.{hash_two}
use Rattle.sha256.specs.Sha256.{P, H₀, sha256}
use Rattle.sha256.proofs.extend.Goals as goal

pub returns : goal.returns
unfolding sha256 blocks
returns c =
    let m = c.args.register.now ++ c.args.digest.now in
    let l : length m ≡ 64 = simp length-append (omega arith) in
    c.store.ensures
    ∙ ap (output P) (c.padded.ensures ∙ ap (λ x. compress P x (padding 64 8 64)) c.joined-s.ensures ∙ sym (hash_two (compress P) 64 8 m H₀ (omega arith) l refl))
