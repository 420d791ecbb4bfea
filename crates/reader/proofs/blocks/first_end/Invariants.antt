-- `reader::blocks::first_end` keeps the lowest number of a byte 10 so far.
use Rattle.std.proofs.Common.{◌≤◌}
use Rattle.reader.specs.Blocks.{FirstEnd}
use Rattle.reader.proofs.blocks.first_end.Given as goal

abbrev pub invariant-loop-number : goal.invariant-loop-number
invariant-loop-number l = (l.first ≤ 255) × FirstEnd l.text l.at l.number l.first
