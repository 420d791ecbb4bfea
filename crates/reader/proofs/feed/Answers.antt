-- `reader::feed` answers line after line: the loop keeps `Feeding`, one line more at each turn.
use Rattle.std.proofs.Common.{arith}
use Rattle.obeying.specs.Held.{same_on}
use Rattle.reader.specs.Answered.{answered_as}
use Rattle.reader.specs.Lines.{right-at}
use Rattle.reader.specs.Fed.{feeding_right, feeding_bad}
use Rattle.reader.proofs.feed.Goals as goal

pub loop-at-smaller-in-Some : goal.loop-at-smaller-in-Some
loop-at-smaller-in-Some c =
    let line = right-at c.read.ensures c.in-Some.is c.requires.0 c.loop-at-test.true in
    omega (arith, line.one.less, line.one.inside)

pub loop-at-preserved-in-Some : goal.loop-at-preserved-in-Some
loop-at-preserved-in-Some c = (
  feeding_right c.loop-at.invariant.0 (omega (arith, c.loop-at.auto.out, c.requires.2)) (right-at c.read.ensures c.in-Some.is c.requires.0 c.loop-at-test.true)
      c.act-written.auto.out (answered_as c.loop-at.invariant.1.n c.act-written.ensures.answered),
  same_on c.loop-at.invariant.1 c.act-written.ensures.same,
)

pub loop-at-preserved : goal.loop-at-preserved
loop-at-preserved c = (
  feeding_bad c.loop-at.invariant.0 (omega (arith, c.loop-at.auto.out, c.requires.2)) c.read.ensures c.in-None.is c.line_end-at.ensures
      c.put_bad-written.auto.out c.put_bad-written.ensures.wrote,
  c.loop-at.invariant.1,
)
