-- `reader::blocks::has_low` looks at every row of a block.
use Rattle.std.proofs.Common.{arith}
use Rattle.reader.specs.Blocks.{high_all}
use Rattle.reader.proofs.blocks.has_low.Goals as goal

pub returns : goal.returns
returns c = λ e. high_all c.args.text.now c.args.at (λ l b. c.loop-i.invariant e l (omega arith))
