-- `groups::close` meets its contract: the positions passed are finished with the leader, and nothing else has changed.
use Rattle.groups.specs.Steps.{ClosedOff}
use Rattle.groups.proofs.close.Given as goal

abbrev pub invariant-loop-q : goal.invariant-loop-q
invariant-loop-q l = ClosedOff l.n l.initial.work l.stand l.q l.low l.work
