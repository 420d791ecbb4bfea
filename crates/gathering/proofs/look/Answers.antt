-- `gathering::look` meets its contract: four places, one put each.
use Rattle.std.proofs.Common.{◌≡◌, arith}
use Rattle.gathering.specs.Looked.{at_next, at_putting}
use Rattle.gathering.proofs.look.Goals as goal

pub put-tail-requires : goal.put-tail-requires
put-tail-requires c = at_putting c.requires c.loop-k.invariant

pub loop-k-preserved : goal.loop-k-preserved
loop-k-preserved c = at_next c.loop-k.invariant c.loop-k-test.true c.put-tail.ensures

pub returns : goal.returns
returns c =
    let end : c.loop-k.k ≡ 4 = omega arith in
    rw end at c.loop-k.invariant
