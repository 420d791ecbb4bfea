-- `register::open_last` meets its contract: whole blocks are left, or the last lines have moved.
use Rattle.std.proofs.Common.{refl, ◌*◌, arith, le_refl}
use Rattle.register.specs.Moved.{lifted_at}
use Rattle.register.specs.Opened.{opened_start, opened_more}
use Rattle.register.proofs.open_last.Goals as goal

pub returns-then-i-blocks-lt-LINES : goal.returns-then-i-blocks-lt-LINES
returns-then-i-blocks-lt-LINES c =
    opened_start _ c.requires.0 c.requires.1 c.requires.2 (omega (arith, c.requires.2)) (omega (arith, c.if-i-blocks-lt-LINES.true))

pub returns : goal.returns
returns c =
    let moved = lifted_at {to' = 3 * c.args.lines} refl (omega (arith, c.requires.2, c.requires.3, c.if-i-blocks-lt-LINES.false)) c.lift.ensures in
    let start = opened_start (3 * c.args.lines) c.requires.0 c.requires.1 c.requires.2 (le_refl _) (omega (arith, c.requires.3)) in
    opened_more start (omega arith) (omega (arith, c.requires.2, c.requires.3, c.if-i-blocks-lt-LINES.false)) moved
