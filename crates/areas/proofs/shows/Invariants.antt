-- `areas::shows` meets its contract. The loop's invariant: if a number passed is free, the answer so far is true.
use Rattle.areas.specs.Blocks.{Shows}
use Rattle.areas.proofs.shows.Given as goal

abbrev pub invariant-loop-state : goal.invariant-loop-state
invariant-loop-state l = Shows l.states l.from l.state-index l.some
