-- `recounting::take_all` meets its contract: two passes over the queue.
use Rattle.recounting.specs.Turning.{handing, turnable, all-taken}
use Rattle.recounting.proofs.take_all.Goals as goal

pub hand_over-requires : goal.hand_over-requires
hand_over-requires c = handing c.requires

pub turn-requires : goal.turn-requires
turn-requires c = turnable c.requires c.hand_over.ensures

pub returns : goal.returns
returns c = all-taken c.requires c.hand_over.ensures c.turn.ensures
