use Rattle.std.proofs.Common.{rules}
use Rattle.printed_lines.proofs.Laws.{put_whole_line}
use Rattle.printed_lines.proofs.put_register.Goals as goal

pub returns : goal.returns
returns c = put_whole_line _ _ _ c.put_head-head.ensures c.put_hex-hex.ensures c.put_fill.ensures (search rules)
