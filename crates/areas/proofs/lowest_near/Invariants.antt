-- `areas::lowest_near` finds the lowest free number: nothing below the loop's p is free.
use Rattle.areas.specs.Lowest.{NoneFree}
use Rattle.areas.proofs.lowest_near.Given as goal

abbrev pub invariant-loop-p : goal.invariant-loop-p
invariant-loop-p l = NoneFree l.states l.p
