-- `groups::close` meets its contract: the positions passed are finished with the leader, and nothing else has changed.
use Rattle.std.proofs.Common.{◌<◌, arith}
use Rattle.groups.specs.Loops.{close_more, closed_lt}
use Rattle.groups.proofs.close.Goals as goal
use Rattle.groups.proofs.close.Goals.{After-get-piece}

-- what is read is a piece
piece_lt : (c : After-get-piece) → c.get-piece.result < c.args.n
piece_lt c = closed_lt c.requires.0 (omega arith) (omega arith) c.loop-q.auto.work c.loop-q.invariant c.get-piece.ensures

pub put-requires : goal.put-requires
put-requires c = omega (arith, piece_lt (goal.at.put-requires c).After-get-piece)

pub put-requires-in-loop-q : goal.put-requires-in-loop-q
put-requires-in-loop-q c = omega (arith, piece_lt (goal.at.put-requires-in-loop-q c).After-get-piece)

pub loop-q-preserved : goal.loop-q-preserved
loop-q-preserved c =
    close_more c.requires.0 (omega arith) (omega arith) c.loop-q.auto.work c.loop-q.invariant c.get-piece.ensures c.put.ensures c.put-in-loop-q.ensures
