-- `groups::lowest` meets its contract: `low` is the lowest of the pieces passed.
use Rattle.std.proofs.Common.{arith}
use Rattle.std.proofs.lemmas.Grind.{common_steps}
use Rattle.groups.specs.Loops.{low_min}
use Rattle.groups.proofs.lowest.Goals as goal

pub loop-piece-preserved : goal.loop-piece-preserved
loop-piece-preserved c = low_min c.loop-piece.invariant (omega arith) (grind (arith, common_steps))
