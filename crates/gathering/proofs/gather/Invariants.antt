-- `gathering::gather`: what the pieces of the queue before j name stands in the queue, which has room for every piece.
use Rattle.std.proofs.Common.{◌-◌, ◌≤◌}
use Rattle.gathering.specs.Walked.{WalkedOn}
use Rattle.gathering.proofs.gather.Given as goal

abbrev pub invariant-loop-j : goal.invariant-loop-j
invariant-loop-j l =
    record {
      walked : WalkedOn l.n l.states l.links l.p l.initial.leaders l.initial.entries l.leaders l.entries l.j l.tail;
      most : l.tail ≤ l.n;
    }

abbrev pub decreases-loop-j : goal.decreases-loop-j
decreases-loop-j l = l.n - l.j
