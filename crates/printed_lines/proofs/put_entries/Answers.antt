use Rattle.wire.proofs.Laws.{then}
use Rattle.printed_lines.specs.Lines.{entries_line, entries_word}
use Rattle.printed_lines.proofs.put_entries.Goals as goal

pub returns : goal.returns
unfolding entries_line entries_word
returns c = then c.put_numbered-a.ensures c.put_fill.ensures
