-- `sound::leaders_found` meets its contract: the faults counted are those of the leaders below p.
use Rattle.sound.specs.Truthful.{Below}
use Rattle.sound.specs.Faults.{Faults}
use Rattle.sound.specs.Leaders.{LeaderFound}
use Rattle.sound.proofs.leaders_found.Given as goal

abbrev pub invariant-loop-p : goal.invariant-loop-p
invariant-loop-p l = Faults (Below (LeaderFound l.tables.n l.tables.states.now l.tables.leaders.now l.work) l.p) l.p l.faults
