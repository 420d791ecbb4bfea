-- `carrying::carry` answers how many bytes it moved: all of the rest, or as many as are enough.
use Rattle.std.proofs.Common.{arith}
use Rattle.carrying.specs.Carried.{carried}
use Rattle.carrying.proofs.carry.Goals as goal

pub returns : goal.returns
returns c = carried c.requires.0 c.requires.1 (omega (arith, c.min-size.ensures)) c.copy_within.ensures.after
