-- `recounting::hand_over`: the pieces of the queue before this one are passed, and what left an entry came to its group's count.
use Rattle.std.proofs.Common.{length}
use Rattle.recounting.specs.Summing.{Summed}
use Rattle.recounting.proofs.hand_over.Given as goal

abbrev pub invariant-loop-piece : goal.invariant-loop-piece
invariant-loop-piece l = Summed (length l.fn.leaders) l.fn.leaders l.fn.counts l.fn.into l.found l.queue l.piece-index l.leaders l.counts l.into
