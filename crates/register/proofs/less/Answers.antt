-- `register::less` meets its contract: the pair's line counts one less, or goes.
use Rattle.std.proofs.Common.{arith}
use Rattle.register.specs.Has.{has_told}
use Rattle.register.specs.Done.{line_inside, line_value, less_counted, less_removed, less_here}
use Rattle.register.proofs.less.Goals as goal

pub bounds-register-i : goal.bounds-register-i
bounds-register-i c = line_inside c.requires.0 c.requires.1 (less_here c.requires.0 c.requires.1 c.requires.2)

pub remove-requires : goal.remove-requires
remove-requires c =
    (c.requires.0, (has_told c.args.register.now c.args.i c.args.seat c.args.piece (less_here c.requires.0 c.requires.1 c.requires.2)).0)

pub returns-then-held-eq1 : goal.returns-then-held-eq1
returns-then-held-eq1 c =
    less_removed c.requires.0 c.requires.1 (less_here c.requires.0 c.requires.1 c.requires.2) c.if-held-eq1.true c.remove.ensures

pub overflow_sub-register : goal.overflow_sub-register
overflow_sub-register c = omega (arith, line_value c.requires.0 c.requires.1 (less_here c.requires.0 c.requires.1 c.requires.2), c.requires.2)

pub bounds-register-i-2 : goal.bounds-register-i-2
bounds-register-i-2 c = line_inside c.requires.0 c.requires.1 (less_here c.requires.0 c.requires.1 c.requires.2)

pub returns : goal.returns
returns c = less_counted c.requires.0 c.requires.1 (less_here c.requires.0 c.requires.1 c.requires.2) c.if-held-eq1.false
