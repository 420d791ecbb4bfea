-- `groups::close_block` meets its contract: one piece, or all from where the search stands up.
use Rattle.std.proofs.Common.{arith}
use Rattle.groups.specs.Loops.{closed_alone, low_stack}
use Rattle.groups.proofs.close_block.Goals as goal

pub returns-then-at : goal.returns-then-at
returns-then-at c = closed_alone c.requires c.if-at.true c.close_one.ensures

pub close-requires : goal.close-requires
close-requires c =
    let P = c.requires.pieces in
    let L = low_stack P c.lowest-low.ensures in
    (P, omega (arith, L.is, P.piece L.place L.to_size))

pub returns : goal.returns
returns c = record { low = c.lowest-low.result; lowest = low_stack c.requires.pieces c.lowest-low.ensures; off = c.close.ensures }
