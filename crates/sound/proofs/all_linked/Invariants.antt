-- `sound::all_linked` meets its contract: the links of the pieces below p are well, and these pieces are counted.
use Rattle.areas.specs.Read.{told}
use Rattle.sound.specs.Tested.{PiecesTested}
use Rattle.sound.proofs.all_linked.Given as goal

abbrev pub invariant-loop-p : goal.invariant-loop-p
invariant-loop-p l = PiecesTested (told l.tables) l.p l.initial.counts l.counts
