-- `letting_go::drain`: one place more is one step more, and at the queue's end every place of the marked pieces is erased.
use Rattle.falling.specs.Steps.{stepped_none, stepped_on, stepped_all, going_on}
use Rattle.falling.specs.Places.{tail_in}
use Rattle.letting_go.proofs.drain.Goals as goal

pub loop-m-init : goal.loop-m-init
loop-m-init c = record { stepped = stepped_none; room = tail_in c.requires }

pub drop_place-tail-requires : goal.drop_place-tail-requires
drop_place-tail-requires c = (going_on c.requires c.loop-m.invariant.stepped, c.loop-m-test.true)

pub loop-m-preserved : goal.loop-m-preserved
loop-m-preserved c =
    let on = stepped_on c.loop-m.invariant.stepped c.drop_place-tail.ensures in
    record { stepped = on; room = tail_in (going_on c.requires on) }

pub returns : goal.returns
returns c = stepped_all c.requires c.loop-m.invariant.stepped c.loop-m-test.false
