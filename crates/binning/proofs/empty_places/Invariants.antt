-- `binning::empty_places`, its loop: the places before k are empty, the others as they were, and the counts match.
use Rattle.editing.specs.Emptied.{Emptied}
use Rattle.binning.proofs.empty_places.Given as goal

abbrev pub invariant-loop-k : goal.invariant-loop-k
invariant-loop-k l = Emptied l.n l.initial.links l.leaders l.initial.counts l.p l.k l.links l.counts
