-- `reader::blocks::ends` looks at each byte of a block.
use Rattle.std.proofs.Common.{◌+◌, ◌≡◌, false}
use Rattle.reader.specs.Lines.{NoEnd}
use Rattle.reader.proofs.blocks.ends.Given as goal

abbrev pub invariant-loop-b : goal.invariant-loop-b
invariant-loop-b l = l.found ≡ false → NoEnd l.text l.at (l.at + l.b-index)
