-- `binning::fall_each`: each piece is put into the queue in turn, and none is left.
use Rattle.std.proofs.Common.{arith}
use Rattle.editing.specs.Started.{tumbling_first, tumbling_next, tumbled_all}
use Rattle.binning.proofs.fall_each.Goals as goal

pub fall-tail-requires : goal.fall-tail-requires
fall-tail-requires c = tumbling_first c.loop-t.invariant (omega arith) c.requires

pub loop-t-preserved : goal.loop-t-preserved
loop-t-preserved c = tumbling_next c.loop-t.invariant (omega arith) c.fall-tail.ensures

pub returns : goal.returns
returns c = tumbled_all c.loop-t.invariant (omega arith)
