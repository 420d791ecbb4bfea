-- `reader::close` writes the last line, from the totals.
use Rattle.std.proofs.Common.{sym}
use Rattle.reader.specs.Ended.{closing}
use Rattle.reader.proofs.close.Goals as goal

pub returns : goal.returns
returns c = rw (sym c.requires.1) (closing c.total-all.ensures c.put_end.ensures.wrote c.put_end.ensures.upper_bound)
