-- `lending::no_room` clears the room: what the rules give for any output that is longer.
use Rattle.lending.specs.Lent.{lent_over}
use Rattle.lending.proofs.no_room.Goals as goal

pub returns : goal.returns
returns c = rw c.refused.ensures (lent_over c.args.room.now (c.fill.ensures.after (λ y e. e)))
