-- `register::is_right` meets its contract: a line that is right is counted, and one that is not tells why.
use Rattle.std.proofs.Common.{[], arith, get_or}
use Rattle.register.specs.Checked.{checked_start, checked_fits}
use Rattle.register.specs.Judged.{zeros_right, wrong_seat, wrong_piece, wrong-number, wrong-order, line_counted, full_right}
use Rattle.register.proofs.is_right.Goals as goal
use Rattle.register.proofs.is_right.Goals.{then-seat-ge-SEATS-via-then-seat-ge-SEATS, then-seat-ge-SEATS-via-else-seat-ge-SEATS+then-n-p}
use Rattle.register.proofs.is_right.Goals.{then-seat-ge-SEATS-via-else-seat-ge-SEATS+else-n-p+then-number-gt-HOLDS}

pub loop-i-init : goal.loop-i-init
loop-i-init c = checked_start c.requires.0 c.requires.1

pub returns-then-number-eq0 : goal.returns-then-number-eq0
returns-then-number-eq0 c =
    let line = c.lines-seat-items.ensures.at c.loop-i.i [] (omega arith) in
    zeros_right c.loop-i.invariant line c.requires.3 c.if-number-eq0.true c.all_zero.ensures

pub returns-then-seat-ge-SEATS : goal.returns-then-seat-ge-SEATS
returns-then-seat-ge-SEATS c =
    let line = c.lines-seat-items.ensures.at c.loop-i.i [] (omega arith) in
    elim c.then-seat-ge-SEATS.branch [
      | then-seat-ge-SEATS-via-then-seat-ge-SEATS w ↦ wrong_seat c.loop-i.invariant line c.if-number-eq0.false w.if-seat-ge-SEATS.true
      | then-seat-ge-SEATS-via-else-seat-ge-SEATS+then-n-p w ↦ wrong_piece c.loop-i.invariant line c.if-number-eq0.false w.if-n-p.true
      | then-seat-ge-SEATS-via-else-seat-ge-SEATS+else-n-p+then-number-gt-HOLDS w ↦
          wrong-number c.loop-i.invariant line c.if-number-eq0.false w.if-number-gt-HOLDS.true
    ]

pub returns-then-next-low : goal.returns-then-next-low
returns-then-next-low c =
    let line = c.lines-seat-items.ensures.at c.loop-i.i [] (omega arith) in
    wrong-order c.loop-i.invariant line c.if-number-eq0.false c.order_of-next.ensures c.if-next-low.true

pub overflow_add-sums : goal.overflow_add-sums
overflow_add-sums c =
    omega (arith, checked_fits c.loop-i.invariant c.requires.3 (get_or (get_or c.lines-seat-items.result.now c.loop-i.i []) 1 0) c.if-n-p.false, c.if-number-gt-HOLDS.false)

pub loop-i-preserved : goal.loop-i-preserved
loop-i-preserved c =
    let line = c.lines-seat-items.ensures.at c.loop-i.i [] (omega arith) in
    line_counted c.loop-i.invariant line c.if-number-eq0.false c.order_of-next.ensures (omega arith) c.requires.2
    c.if-seat-ge-SEATS.false c.if-n-p.false c.if-number-gt-HOLDS.false c.if-next-low.false c.from.ensures

pub returns : goal.returns
returns c = full_right c.loop-i.invariant c.requires.3 (omega arith)
