-- `register::agrees` meets its contract: the register is right and all holds are those added up.
use Rattle.register.specs.Agreed.{right_agreed, agreed_later}
use Rattle.register.proofs.agrees.Goals as goal

pub returns-then-is_right : goal.returns-then-is_right
returns-then-is_right c = (right_agreed c.is_right.ensures c.args.holds.now c.requires.2 c.requires.3 c.if-is_right.true c.compare.ensures, agreed_later c.is_right.ensures)
