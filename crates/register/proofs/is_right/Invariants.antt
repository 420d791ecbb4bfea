-- `register::is_right` meets its contract: the lines below i are right and added up, and each way out is one law.
use Rattle.register.specs.Checked.{Checked}
use Rattle.register.proofs.is_right.Given as goal

abbrev pub invariant-loop-i : goal.invariant-loop-i
invariant-loop-i l = Checked l.n l.register l.initial.sums l.low l.i l.sums
