-- `reader::blocks::has_low` looks at every row of a block.
use Rattle.std.proofs.Common.{◌≡◌, false}
use Rattle.reader.specs.Blocks.{High}
use Rattle.reader.proofs.blocks.has_low.Given as goal

abbrev pub invariant-loop-i : goal.invariant-loop-i
invariant-loop-i l = l.low ≡ false → High l.text l.at l.i
