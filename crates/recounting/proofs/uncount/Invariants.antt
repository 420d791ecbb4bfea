-- `recounting::uncount`: the places passed are taken off.
use Rattle.recounting.specs.Inner.{Uncounted}
use Rattle.recounting.proofs.uncount.Given as goal

abbrev pub invariant-loop-place : goal.invariant-loop-place
invariant-loop-place l = Uncounted l.n l.links l.leaders l.fn.counts l.q l.place-index l.counts
