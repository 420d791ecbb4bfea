-- `groups::merge` meets its contract: the blocks from `left` on start above the position, and the first does not.
use Rattle.std.proofs.Common.{refl}
use Rattle.groups.specs.Loops.{cut-more, cut_done, more_blocks}
use Rattle.groups.proofs.merge.Goals as goal

pub loop-left-preserved : goal.loop-left-preserved
loop-left-preserved c = cut-more c.loop-left.invariant (more_blocks c.loop-left.invariant c.requires c.loop-left-test.true) c.loop-left-test.true

pub returns : goal.returns
returns c = cut_done c.loop-left.invariant refl c.loop-left-test.false
