-- `sound::all_linked` meets its contract: the links of the pieces below p are well, and these pieces are counted.
use Rattle.sound.specs.Tested.{pieces_start, hold_given, piece_given, piece_well, pieces_all}
use Rattle.sound.proofs.all_linked.Goals as goal

pub loop-p-init : goal.loop-p-init
loop-p-init c = pieces_start

pub add_hold-requires : goal.add_hold-requires
add_hold-requires c = hold_given c.requires c.loop-p.invariant c.loop-p-test.true

pub links_well-requires : goal.links_well-requires
links_well-requires c = piece_given c.requires c.loop-p.invariant c.loop-p-test.true c.add_hold.ensures.counted c.add_hold.ensures.wide

pub loop-p-preserved : goal.loop-p-preserved
loop-p-preserved c =
    piece_well c.requires c.loop-p.invariant c.loop-p-test.true c.add_hold.ensures.counted c.add_hold.ensures.wide c.links_well.ensures c.if-not-links_well.false

pub returns : goal.returns
returns c = pieces_all c.requires c.loop-p.invariant c.loop-p-test.false
