-- `areas::pass_blocks` meets its contract: a block that shows no free number is passed.
use Rattle.std.proofs.Common.{arith}
use Rattle.areas.specs.Blocks.{block_past}
use Rattle.areas.proofs.pass_blocks.Goals as goal

pub loop-p-preserved : goal.loop-p-preserved
loop-p-preserved c = (omega arith, block_past c.loop-p.invariant.1 c.shows.ensures c.if-shows.false)
