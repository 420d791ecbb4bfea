-- `gathering::look`: the places before k are looked at.
use Rattle.gathering.specs.Looked.{LookedAt}
use Rattle.gathering.proofs.look.Given as goal

abbrev pub invariant-loop-k : goal.invariant-loop-k
invariant-loop-k l = LookedAt l.n l.states l.links l.q l.initial.leaders l.initial.entries l.initial.tail l.k l.leaders l.entries l.tail
