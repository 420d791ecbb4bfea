-- `reader::near_end` asks the next 64 bytes, then byte by byte.
use Rattle.std.proofs.Common.{arith}
use Rattle.reader.specs.Blocks.{first_here}
use Rattle.reader.proofs.near_end.Goals as goal

pub returns-in-Some : goal.returns-in-Some
returns-in-Some c = first_here (omega arith) c.in-Some.ensures.1 c.in-Some.ensures.0
