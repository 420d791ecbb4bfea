-- `freezing::unmark`: what stands in the queue before this piece is unmarked.
use Rattle.freezing.specs.Unmarked.{Unmarked}
use Rattle.freezing.proofs.unmark.Given as goal

abbrev pub invariant-loop-piece : goal.invariant-loop-piece
invariant-loop-piece l = Unmarked l.n l.fn.work l.queue l.piece-index l.work
