use Rattle.wire.proofs.Laws.{then}
use Rattle.printed_lines.specs.Lines.{refused_line, refused_word, at_word}
use Rattle.printed_lines.proofs.put_refused.Goals as goal

pub returns : goal.returns
unfolding refused_line refused_word at_word
returns c = then c.put_numbered-a.ensures (then c.put_numbered-b.ensures c.put_fill.ensures)
