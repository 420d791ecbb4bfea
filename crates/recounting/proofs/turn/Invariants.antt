-- `recounting::turn`: the pieces of the queue before this one are passed.
use Rattle.recounting.specs.Turning.{Turned}
use Rattle.recounting.proofs.turn.Given as goal

abbrev pub invariant-loop-piece : goal.invariant-loop-piece
invariant-loop-piece l = Turned l.n l.fn.states l.links l.leaders l.fn.counts l.queue l.piece-index l.states l.counts
