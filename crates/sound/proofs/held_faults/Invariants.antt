-- `sound::held_faults` meets its contract: the faults counted are those of the pieces so far.
use Rattle.std.proofs.Common.{length}
use Rattle.sound.specs.Truthful.{Below}
use Rattle.sound.specs.Faults.{Faults}
use Rattle.sound.specs.Wells.{HeldWell}
use Rattle.sound.proofs.held_faults.Given as goal

abbrev pub invariant-loop-state : goal.invariant-loop-state
invariant-loop-state l = Faults (Below (HeldWell l.states l.holds) (length l.yielded)) (length l.yielded) l.faults
