-- `letting_go::drain`, its loop: the steps so far, whatever the letting go began with, and the queue has room for every piece. The measure is what is left of 4n places.
use Rattle.std.proofs.Common.{◌-◌, ◌*◌, ◌≤◌}
use Rattle.falling.specs.Steps.{Stepped}
use Rattle.letting_go.proofs.drain.Given as goal

abbrev pub invariant-loop-m : goal.invariant-loop-m
invariant-loop-m l =
    record {
      stepped : Stepped l.n l.leaders l.initial.states l.initial.links l.initial.counts l.initial.list 0 l.first l.states l.links l.counts l.list l.m l.tail;
      room : (l.tail ≤ l.n) × (l.n ≤ 1024) × (l.m ≤ 4 * l.tail);
    }

abbrev pub decreases-loop-m : goal.decreases-loop-m
decreases-loop-m l = 4 * l.n - l.m
