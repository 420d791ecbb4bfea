-- `letting_go::fall`: each way through it is one law over the tables: past the pieces, no leader, a count left, there already, put at the tail.
use Rattle.std.proofs.Common.{arith}
use Rattle.falling.specs.Fall.{tipped_past, tipped_bare, tipped_counted, tipped_there, tipped_mark, tip_room}
use Rattle.letting_go.proofs.fall.Goals as goal

pub returns-then-n-t : goal.returns-then-n-t
returns-then-n-t c = tipped_past c.if-n-t.true

pub returns-then-n-l : goal.returns-then-n-l
returns-then-n-l c = tipped_bare c.if-n-t.false c.if-n-l.true

pub returns-then-counts-l-ne0 : goal.returns-then-counts-l-ne0
returns-then-counts-l-ne0 c = tipped_counted c.if-n-t.false c.if-counts-l-ne0.true

pub returns-then-states-l-eq-FREE : goal.returns-then-states-l-eq-FREE
returns-then-states-l-eq-FREE c = tipped_there c.if-n-t.false c.if-states-l-eq-FREE.true

pub mark-requires : goal.mark-requires
mark-requires c =
    let room = tip_room c.if-n-t.false c.if-n-l.false c.if-counts-l-ne0.false c.if-states-l-eq-FREE.false c.requires in
    let sizes = c.requires.falling.core.lengths in
    (omega (arith, sizes.states_n), omega (arith, sizes.small), room.1)

pub returns : goal.returns
returns c =
    rw (c.mark.ensures.0, c.mark.ensures.1, c.mark.ensures.2)
    (tipped_mark c.if-n-t.false c.if-n-l.false c.if-counts-l-ne0.false c.if-states-l-eq-FREE.false)
