-- `request_checks::fields_good` meets its contract. Assumes nothing.
use Rattle.request_checks.specs.Checks.{fields_good, data_limit}
use Rattle.entry.specs.Entry.{event_limit}
use Rattle.request_checks.proofs.fields_good.Goals as goal

pub returns : goal.returns
unfolding fields_good data_limit event_limit
returns c = rw (c.get_le-register.ensures.0, c.get_le-head.ensures.0, c.get_le-size.ensures.0)
