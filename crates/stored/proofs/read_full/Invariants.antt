-- What came fits the text, and each read brings some of what is left.
use Rattle.std.proofs.Common.{◌-◌, ◌≤◌, length}
use Rattle.stored.proofs.read_full.Given as goal

abbrev pub invariant-loop-done : goal.invariant-loop-done
invariant-loop-done l = l.done ≤ length l.text

abbrev pub decreases-loop-done : goal.decreases-loop-done
decreases-loop-done l = length l.initial.text - l.done
