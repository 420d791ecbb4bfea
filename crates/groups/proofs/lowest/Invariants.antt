-- `groups::lowest` meets its contract: `low` is the lowest of the pieces passed.
use Rattle.std.proofs.Common.{◌+◌}
use Rattle.paths.specs.Moves.Pop.{LowestOnStack}
use Rattle.groups.proofs.lowest.Given as goal

abbrev pub invariant-loop-piece : goal.invariant-loop-piece
invariant-loop-piece l = LowestOnStack l.pieces 0 (1 + l.piece-index) l.low
