-- `into::forget` meets its contract: the links before place k are taken off.
use Rattle.into.specs.Forgotten.{Forgotten}
use Rattle.into.proofs.forget.Given as goal

abbrev pub invariant-loop-k : goal.invariant-loop-k
invariant-loop-k l = Forgotten l.n l.states l.links l.initial.into l.p l.k l.into
