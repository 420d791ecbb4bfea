-- `sound::add_hold` meets its contract: the label of the piece is one of the counts, and has its holds more.
use Rattle.sound.specs.Link.{hold_counted, hold_none}
use Rattle.sound.proofs.add_hold.Goals as goal

pub returns-then-tables-p-ne0-clause-counted : goal.returns-then-tables-p-ne0-clause-counted
returns-then-tables-p-ne0-clause-counted c = hold_counted c.requires c.label-l.ensures

pub returns-else-tables-p-ne0-clause-counted : goal.returns-else-tables-p-ne0-clause-counted
returns-else-tables-p-ne0-clause-counted c = hold_none c.requires c.if-tables-p-ne0.false
