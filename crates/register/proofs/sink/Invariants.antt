-- `register::sink` meets its contract: the entries before the k-th are those three further on.
use Rattle.std.proofs.Common.{◌+◌, ◌-◌, ◌≤◌}
use Rattle.register.specs.Moved.{Sunk}
use Rattle.register.proofs.sink.Given as goal

abbrev pub invariant-loop-k : goal.invariant-loop-k
invariant-loop-k l = (l.k ≤ l.many) × Sunk l.initial.register l.from (l.from + l.k) l.register

abbrev pub decreases-loop-k : goal.decreases-loop-k
decreases-loop-k l = l.many - l.k
