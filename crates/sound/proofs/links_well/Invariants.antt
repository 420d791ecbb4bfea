-- `sound::links_well` meets its contract: the links before k are well and counted.
use Rattle.areas.specs.Read.{told}
use Rattle.sound.specs.Links.{PlacesTested}
use Rattle.sound.proofs.links_well.Given as goal

abbrev pub invariant-loop-k : goal.invariant-loop-k
invariant-loop-k l = PlacesTested (told l.tables) l.p l.k l.initial.counts l.counts
