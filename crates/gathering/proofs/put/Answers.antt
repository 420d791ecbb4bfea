-- `gathering::put` meets its contract: each early return is one way in which t is no draft, or stands in the queue.
use Rattle.std.proofs.Common.{arith}
use Rattle.gathering.specs.Put.{stayed, put}
use Rattle.gathering.proofs.put.Goals as goal

pub returns-then-n-t : goal.returns-then-n-t
returns-then-n-t c = stayed (λ f. omega (arith, f.below, c.if-n-t.true))

pub returns-then-leaders-t : goal.returns-then-leaders-t
returns-then-leaders-t c = stayed (λ f. c.if-leaders-t.true f.bare)

pub returns-then-states-t-ne-DRAFT : goal.returns-then-states-t-ne-DRAFT
returns-then-states-t-ne-DRAFT c = stayed (λ f. c.if-states-t-ne-DRAFT.true f.draft)

pub returns : goal.returns
returns c = put (record { below = c.if-n-t.false; draft = c.if-states-t-ne-DRAFT.false; bare = c.if-leaders-t.false })
