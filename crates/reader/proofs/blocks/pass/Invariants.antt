-- `reader::blocks::pass` passes blocks in which no line ends; the last byte of the text ends one.
use Rattle.std.proofs.Common.{◌-◌, ◌≤◌, ◌<◌, length}
use Rattle.reader.specs.Lines.{NoEnd}
use Rattle.reader.proofs.blocks.pass.Given as goal

abbrev pub invariant-loop-i : goal.invariant-loop-i
invariant-loop-i g l = (l.at ≤ l.i) × (l.i < length l.text) × NoEnd l.text l.at l.i

abbrev pub decreases-loop-i : goal.decreases-loop-i
decreases-loop-i g l = length l.text - l.i
