-- `reader::blocks::pass_back` passes blocks in which no line ends, from a place back.
use Rattle.std.proofs.Common.{◌≤◌, length}
use Rattle.reader.specs.Lines.{NoEnd}
use Rattle.reader.proofs.blocks.pass_back.Given as goal

abbrev pub invariant-loop-r : goal.invariant-loop-r
invariant-loop-r g l = (l.to ≤ l.r) × (l.r ≤ l.from) × NoEnd l.text l.r (length l.text)

abbrev pub decreases-loop-r : goal.decreases-loop-r
decreases-loop-r g l = l.r
