-- `recounting::hand_over` meets its contract: piece after piece of the queue gets its leader and leaves its entry.
use Rattle.std.proofs.Common.{refl, arith}
use Rattle.recounting.specs.Summing.{summing_room, summed_more}
use Rattle.recounting.proofs.hand_over.Goals as goal

pub overflow_add-counts : goal.overflow_add-counts
overflow_add-counts c = omega (arith, summing_room c.requires.taking c.loop-piece.invariant (omega arith))

pub loop-piece-preserved : goal.loop-piece-preserved
loop-piece-preserved c = rw c.from.ensures (summed_more c.requires.taking c.loop-piece.invariant (omega arith) refl refl refl)
