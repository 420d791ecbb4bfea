-- `reader::blocks::lowest` keeps the lowest byte so far.
use Rattle.reader.specs.Blocks.{Lowest}
use Rattle.reader.proofs.blocks.lowest.Given as goal

abbrev pub invariant-loop-j : goal.invariant-loop-j
invariant-loop-j l = Lowest l.text l.at l.j l.least
