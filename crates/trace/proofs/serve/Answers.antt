-- What is fed more is served too.
use Rattle.std.proofs.Common.{arith}
use Rattle.obeying.specs.Held.{same_on}
use Rattle.trace.specs.Served.{serving_more}
use Rattle.trace.proofs.serve.Goals as goal

pub loop-at-preserved : goal.loop-at-preserved
loop-at-preserved c = (serving_more c.loop-at.invariant.0 c.feed-fed.ensures.fed.0, omega arith, same_on c.loop-at.invariant.2 c.feed-fed.ensures.same)
