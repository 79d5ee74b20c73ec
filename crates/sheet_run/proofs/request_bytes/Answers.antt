-- `sheet_run::request_bytes` meets its contract: the runs that it writes, one behind the other, are the request's. Assumes nothing.
use Rattle.wire.specs.Bytes.{le}
use Rattle.wire.proofs.Laws.{then}
use Rattle.sheet_run.specs.Request.{sizes_of, request_of}
use Rattle.sheet_run.proofs.request_bytes.Goals as goal

pub returns : goal.returns
unfolding le sizes_of request_of
returns c =
    let sizes = then c.put_le-header_size.ensures (then c.put_le-version.ensures c.put_le-register.ensures) in
    (then sizes (then c.put_le-kind.ensures (then c.put_le-event.ensures c.put_bytes.ensures))).bytes
