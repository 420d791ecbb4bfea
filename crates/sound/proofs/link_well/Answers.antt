-- `sound::link_well` meets its contract: each return is one case of `LinkWell`, and the last two of the target's label.
use Rattle.std.proofs.Common.{arith}
use Rattle.sound.specs.Link.{tested_past, tested_own, tested_other}
use Rattle.sound.proofs.link_well.Goals as goal

pub returns-then-tables-t : goal.returns-then-tables-t
returns-then-tables-t c = tested_past c.requires c.if-tables-t.true

pub returns-then-l-own : goal.returns-then-l-own
returns-then-l-own c = tested_other c.requires c.if-tables-t.false c.label-l.ensures (omega arith) c.if-l-own.true

pub returns-else-l-own : goal.returns-else-l-own
returns-else-l-own c = tested_own c.requires c.if-tables-t.false c.label-l.ensures (omega arith) c.if-l-own.false
