-- `binning::fall_each`, its loop: the pieces before t are put into the queue.
use Rattle.editing.specs.Started.{Tumbling}
use Rattle.binning.proofs.fall_each.Given as goal

abbrev pub invariant-loop-t : goal.invariant-loop-t
invariant-loop-t l = Tumbling l.n l.initial.states l.leaders l.counts l.initial.list l.named l.t-index l.states l.list l.tail
