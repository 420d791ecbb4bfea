-- `register::lift` meets its contract: the entries from the k-th on stand three further.
use Rattle.std.proofs.Common.{◌+◌, ◌≤◌}
use Rattle.register.specs.Moved.{Lifted}
use Rattle.register.proofs.lift.Given as goal

abbrev pub invariant-loop-k : goal.invariant-loop-k
invariant-loop-k l = (l.k ≤ l.many) × Lifted l.initial.register (l.from + l.k) (l.from + l.many) l.register

abbrev pub decreases-loop-k : goal.decreases-loop-k
decreases-loop-k l = l.k
