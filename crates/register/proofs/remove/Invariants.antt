-- `register::remove` meets its contract: the lines from i on to m are those behind them, up to an unused one or the last.
use Rattle.std.proofs.Common.{◌-◌, ◌*◌, ◌<◌}
use Rattle.register.specs.Closed.{Closed}
use Rattle.rules.specs.Limits.{lines}
use Rattle.register.proofs.remove.Given as goal

abbrev pub invariant-loop-m : goal.invariant-loop-m
invariant-loop-m l = (l.m < lines) × Closed l.initial.register l.i (3 * l.m) l.register

abbrev pub decreases-loop-m : goal.decreases-loop-m
decreases-loop-m l = lines - l.m
