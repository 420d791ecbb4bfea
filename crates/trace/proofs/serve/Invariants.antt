-- `trace::serve` answers a text part by part: the loop keeps `Serving`, and each time some of the text is taken.
use Rattle.std.proofs.Common.{◌≡◌, ◌-◌, length}
use Rattle.obeying.specs.Held.{held, Same}
use Rattle.trace.specs.Served.{Serving}
use Rattle.trace.proofs.serve.Given as goal

abbrev pub invariant-loop-at : goal.invariant-loop-at
invariant-loop-at l =
    Serving (held l.initial.areas).store l.text (held l.areas).store l.at × (length l.out ≡ length l.initial.out) × Same l.initial.areas l.areas

abbrev pub decreases-loop-at : goal.decreases-loop-at
decreases-loop-at l = length l.text - l.at
