-- `sound::counts_found` meets its contract: the faults counted are those of the entries below p.
use Rattle.sound.specs.Truthful.{Below}
use Rattle.sound.specs.Faults.{Faults}
use Rattle.sound.specs.Compared.{CountFound}
use Rattle.sound.proofs.counts_found.Given as goal

abbrev pub invariant-loop-p : goal.invariant-loop-p
invariant-loop-p l = Faults (Below (CountFound l.tables.n l.tables.leaders.now l.tables.counts.now l.into l.work) l.p) l.p l.faults
