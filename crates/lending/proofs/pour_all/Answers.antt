-- `lending::pour_all` pours the whole lines, then what is left of the text as a line that gets its end.
use Rattle.std.proofs.Common.{arith}
use Rattle.obeying.specs.Held.{same_on}
use Rattle.lending.specs.Filled.{filled_early, filled}
use Rattle.lending.proofs.pour_all.Goals as goal

pub returns-in_err-size-clause-filled : goal.returns-in_err-size-clause-filled
returns-in_err-size-clause-filled c = rw c.from_residual.ensures (filled_early c.whole-whole.ensures c.in_err-size.ensures.poured)

pub returns-clause-filled : goal.returns-clause-filled
returns-clause-filled c = filled c.whole-whole.ensures c.in_ok-size.ensures.poured c.end_line-end.ensures (omega (arith, c.pour.auto)) c.pour-2.ensures.poured

pub returns-clause-same : goal.returns-clause-same
returns-clause-same c = same_on c.in_ok-size.ensures.same c.pour-2.ensures.same
