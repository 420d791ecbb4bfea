-- `recounting::turn` meets its contract: piece after piece of the queue is uncounted and frozen.
use Rattle.std.proofs.Common.{refl, arith}
use Rattle.recounting.specs.Turning.{uncounting, turned_more}
use Rattle.recounting.proofs.turn.Goals as goal

pub uncount-requires : goal.uncount-requires
uncount-requires c = uncounting c.requires c.loop-piece.invariant (omega arith)

pub loop-piece-preserved : goal.loop-piece-preserved
loop-piece-preserved c = turned_more c.requires c.loop-piece.invariant (omega arith) c.uncount.ensures refl
