-- `binning::empty_places`: each place in turn is emptied by a relinking, which is all that it asks.
use Rattle.editing.specs.Emptied.{emptying_place}
use Rattle.binning.proofs.empty_places.Goals as goal

pub relink-requires : goal.relink-requires
relink-requires c = emptying_place c.loop-k.invariant c.loop-k-test.true c.requires
