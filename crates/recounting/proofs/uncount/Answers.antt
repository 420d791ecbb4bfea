-- `recounting::uncount` meets its contract: each place that names another piece of the group takes one off.
use Rattle.std.proofs.Common.{arith}
use Rattle.recounting.specs.Inner.{uncounted_none, place_past, place_other, place_room, place_led}
use Rattle.recounting.proofs.uncount.Goals as goal
use Rattle.recounting.proofs.uncount.Goals.{then-t-n+then-leaders-t, else-t-n, else-t-n-via-then-t-n+else-leaders-t, else-t-n-via-else-t-n}

pub loop-place-init : goal.loop-place-init
loop-place-init c = uncounted_none

pub overflow_sub-counts : goal.overflow_sub-counts
overflow_sub-counts c = place_room c.requires c.loop-place.invariant (omega arith) c.if-t-n.true c.if-leaders-t.true c.from.ensures

pub loop-place-preserved : goal.loop-place-preserved
loop-place-preserved c =
    elim c.if-t-n.branch [
      | then-t-n+then-leaders-t w ↦ place_led c.requires c.loop-place.invariant (omega arith) w.if-t-n.true w.if-leaders-t.true w.from.ensures w.counts-is
      | else-t-n w ↦ elim w.else-t-n.branch [
        | else-t-n-via-then-t-n+else-leaders-t v ↦ place_other c.requires c.loop-place.invariant (omega arith) v.if-t-n.true v.if-leaders-t.false w.counts-is
        | else-t-n-via-else-t-n v ↦ place_past c.requires c.loop-place.invariant (omega arith) v.if-t-n.false w.counts-is
      ]
    ]
