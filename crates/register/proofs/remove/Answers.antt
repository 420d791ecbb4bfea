-- `register::remove` meets its contract: a block more is that behind it, and the last line is emptied.
use Rattle.std.proofs.Common.{◌+◌, arith}
use Rattle.register.specs.Order.{used_below}
use Rattle.register.specs.Moved.{sunk_at}
use Rattle.register.specs.Closed.{closed_start, closed_more, closed_block, closed_unused, closed_end}
use Rattle.register.proofs.remove.Goals as goal

pub loop-m-init : goal.loop-m-init
loop-m-init c = (omega (arith, used_below _ c.requires.0 _ c.requires.1), closed_start c.requires.0.size)

pub returns-then-register-m-eq0 : goal.returns-then-register-m-eq0
returns-then-register-m-eq0 c =
    let moved = closed_block c.loop-m.m c.loop-m.invariant.1 c.sink.ensures in
    closed_unused (c.loop-m.m + 32) c.requires.0 (used_below _ c.requires.0 _ c.requires.1) (omega (arith, c.loop-m-test.true)) moved c.if-register-m-eq0.true

pub returns : goal.returns
returns c =
    let moved = closed_more c.loop-m.invariant.1 (omega (arith, c.loop-m.invariant.0)) (sunk_at {to' = 3069} (omega (arith, c.loop-m.invariant.0)) c.sink-2.ensures) in
    closed_end c.requires.0.size (used_below _ c.requires.0 _ c.requires.1) moved
