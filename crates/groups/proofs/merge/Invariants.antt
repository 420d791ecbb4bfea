-- `groups::merge` meets its contract: the blocks from `left` on start above the position.
use Rattle.groups.specs.Loops.{Cutting}
use Rattle.groups.proofs.merge.Given as goal

abbrev pub invariant-loop-left : goal.invariant-loop-left
invariant-loop-left l = Cutting l.starts l.position l.left

abbrev pub decreases-loop-left : goal.decreases-loop-left
decreases-loop-left l = l.left
